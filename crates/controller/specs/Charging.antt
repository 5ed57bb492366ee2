-- What a report and a show charge, and what they leave of a core.
use Rattle.std.specs.Prelude.{ℕ, ◌+◌, Bool, true, cond, ◌&&◌, ◌||◌, ℤ, pos, ◌+ℤ◌, ◌-ℤ◌, None, ◌==◌, int_lt, slice_index, slice_set}
use Rattle.std.specs.Int.{int_min}
use Rattle.logexp.specs.Held.{◌⊕◌, ◌⊖◌}
use Rattle.flat.specs.Flat.{code_of}
use Rattle.flat.specs.declared.subtype.Subtype.{Subtype}
use Rattle.calls.specs.Numbers.{sef_bits}
use Rattle.controller.specs.declared.state.Reservoir.{Reservoir}
use Rattle.controller.specs.declared.state.Core.{Core}

-- bits exceed fullness and one credit
abbrev pub exceeds : Reservoir → ℕ → Bool
exceeds r bits = int_lt (r.fullness +ℤ r.credit) (pos bits)

-- what a frame brings: the credit if it is shown
abbrev pub gained : Reservoir → Bool → ℤ
gained r shown = cond shown r.credit (pos 0)

-- a charge is taken, a shown frame adds the credit, and only then the limit caps
abbrev pub settled : Reservoir → ℕ → Bool → Reservoir
settled r charge shown = record {
  fullness = int_min r.limit (r.fullness -ℤ pos charge +ℤ gained r shown);
  credit = r.credit;
  limit = r.limit;
  target = r.target;
}

-- a report is told as dropped if it has no bits or, with dropping on, if it is droppable and exceeds
abbrev pub is_dropped : Core → ℕ → Bool → Bool
is_dropped s bits droppable = bits == 0 || (s.profile.dropping && (droppable && exceeds s.reservoir bits))

-- a report is charged its bits, or 0 if it is dropped
abbrev pub charged : Core → ℕ → Bool → ℕ
charged s bits droppable = cond (is_dropped s bits droppable) 0 bits

-- predicted less charged; nothing is predicted for 0 bits
abbrev pub surplus_of : ℤ → ℕ → ℕ → ℤ
surplus_of predicted bits charge = cond (bits == 0) (pos 0) predicted ⊖ pos charge

-- the core after a report of a frame of a subtype, for which so many bits were predicted
abbrev pub reported_core : Core → Subtype → ℤ → ℕ → Bool → Bool → Core
reported_core s k predicted bits shown droppable = record {
  profile = s.profile;
  reservoir = settled s.reservoir (charged s bits droppable) shown;
  rate_bias = s.rate_bias ⊕ surplus_of predicted bits (charged s bits droppable);
  accepted = s.accepted + 1;
  coded = s.coded + cond (bits == 0) 0 1;
  reports = slice_set s.reports (code_of k) (slice_index s.reports (code_of k) + 1);
  choices = s.choices;
  out = None;
}

-- the core after a show, which is charged 24 bits and brings a credit
abbrev pub shown_core : Core → Core
shown_core s = record {
  profile = s.profile;
  reservoir = settled s.reservoir sef_bits true;
  rate_bias = s.rate_bias;
  accepted = s.accepted + 1;
  coded = s.coded;
  reports = s.reports;
  choices = s.choices;
  out = s.out;
}
