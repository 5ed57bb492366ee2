-- The controller of the worked figures, and what calls make of it over any model.
use Rattle.std.specs.Prelude.{ℕ, Bool, true, false, List, [], ◌∷◌, pos, None}
use Rattle.tables.specs.declared.depth.Depth.TheVariants.{Eight}
use Rattle.quantize.specs.declared.sampling.ChromaSampling.TheVariants.{Cs420}
use Rattle.model.specs.declared.settings.Settings.{Settings}
use Rattle.model.specs.Laws.{small_frame}
use Rattle.calls.specs.declared.call.Call.{Call}
use Rattle.calls.specs.declared.call.Call.TheVariants.{Choose, Report}
use Rattle.controller.specs.declared.state.Core.{Core}

-- 640 by 360 at 25/1 and 1,000,000 bits per second, with dropping on or off
abbrev pub worked_settings : Bool → Settings
worked_settings dropping = record {
  width = small_frame.width;
  height = small_frame.height;
  numerator = small_frame.numerator;
  denominator = small_frame.denominator;
  bitrate = small_frame.bitrate;
  depth = small_frame.depth;
  sampling = small_frame.sampling;
  lowest = small_frame.lowest;
  highest = small_frame.highest;
  interval = small_frame.interval;
  delay = small_frame.delay;
  dropping = dropping;
}

-- the core that they open with: credit 39,984, limit 479,808, fullness 239,904
abbrev pub worked_core : Bool → Core
worked_core dropping = record {
  profile = record { depth = Eight; sampling = Cs420; lowest = 0; highest = None; delay = 12; dropping = dropping };
  reservoir = record { fullness = pos 239904; credit = pos 39984; limit = pos 479808; target = pos 239904 };
  rate_bias = pos 0;
  accepted = 0;
  coded = 0;
  reports = 0 ∷ 0 ∷ 0 ∷ 0 ∷ [];
  choices = 0;
  out = None;
}

-- a choice for an I frame, and the report of that frame, shown, with the ticket of a number
abbrev pub frame : ℕ → ℕ → List Call
frame number bits = Choose 0 0 None (pos 0) ∷ Report number bits true false ∷ []
