-- The core that settings open with.
use Rattle.std.specs.Prelude.{[], ◌∷◌, pos, None, Ok, Err, Result}
use Rattle.model.specs.declared.settings.Settings.{Settings}
use Rattle.model.specs.declared.settings.Accepted.{Accepted}
use Rattle.model.specs.declared.refusal.Refusal.{Refusal}
use Rattle.model.specs.Questions.{accepted}
use Rattle.controller.specs.declared.state.Core.{Core}
use Rattle.controller.specs.declared.state.Profile.{Profile}
use Rattle.controller.specs.declared.state.Reservoir.{Reservoir}
use Rattle.controller.specs.declared.controller.Controller.{Controller}
use Rattle.controller.specs.declared.controller.Unopened.{Unopened}

-- what stays as it was opened
abbrev pub profile_of : Accepted → Profile
profile_of a = record {
  depth = a.depth;
  sampling = a.sampling;
  lowest = a.lowest;
  highest = a.highest;
  delay = a.delay;
  dropping = a.dropping;
}

-- the reservoir opens at its target
abbrev pub reservoir_of : Accepted → Reservoir
reservoir_of a = record { fullness = a.target; credit = a.credit; limit = a.limit; target = a.target }

-- no call has been accepted, and no ticket is out
abbrev pub fresh_core : Accepted → Core
fresh_core a = record {
  profile = profile_of a;
  reservoir = reservoir_of a;
  rate_bias = pos 0;
  accepted = 0;
  coded = 0;
  reports = 0 ∷ 0 ∷ 0 ∷ 0 ∷ [];
  choices = 0;
  out = None;
}

-- the core that accepted figures open with
abbrev pub opened_from : Result Accepted Refusal → Result Core Refusal
opened_from (Ok a) = Ok (fresh_core a)
opened_from (Err e) = Err e

-- the core that settings open with, or the first of the eight questions that is answered by no
abbrev pub opened : Settings → Result Core Refusal
opened s = opened_from (accepted s)

-- an opening as values: the core or the refusal, each beside the model
abbrev pub opening_view : {M : Type 0} → Result (Controller M) (Unopened M) → Result Core Refusal × M
opening_view (Ok c) = (Ok c.core, c.model)
opening_view (Err u) = (Err u.refusal, u.model)
