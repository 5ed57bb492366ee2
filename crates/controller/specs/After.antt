-- What a call leaves and answers, and whether a ticket is out.
use Rattle.std.specs.Prelude.{ℕ, ◌+◌, ◌%◌, ◌^◌, Bool, true, false, cond, Some, None, Ok, Err, Option, Result, ◌==◌, nat_lt}
use Rattle.calls.specs.declared.refusal.Refusal.{Refusal}
use Rattle.calls.specs.Numbers.{number}
use Rattle.controller.specs.declared.state.Core.{Core}
use Rattle.controller.specs.declared.state.Frame.{Frame}
use Rattle.controller.specs.declared.ticket.Ticket.{Ticket}
use Rattle.controller.specs.declared.ticket.Unspent.{Unspent}

-- the core and the model that a call leaves, and its answer
pub record After (M X : Type 0) : Type 0 where
  pub core : Core
  pub model : M
  pub answer : Result X Refusal

-- a refused call changes nothing
abbrev pub refused : {M X : Type 0} → Core → M → Refusal → After M X
refused s m e = record { core = s; model = m; answer = Err e }

-- a refused trial or report hands its ticket back
abbrev pub handed : {X : Type 0} → Ticket → Result X Refusal → Result X Unspent
handed t (Ok x) = Ok x
handed t (Err e) = Err (record { refusal = e; ticket = t })

-- the number of a refusal, or 0 for an accepted call
abbrev pub told : {X : Type 0} → Result X Refusal → ℕ
told (Ok x) = 0
told (Err e) = number e

-- the same where the ticket comes back
abbrev pub told_back : {X : Type 0} → Result X Unspent → ℕ
told_back (Ok x) = 0
told_back (Err u) = number u.refusal

-- a ticket is out
abbrev pub any_out : Option Frame → Bool
any_out None = false
any_out (Some f) = true

-- the frame of the ticket that is out, if the number of that ticket is n: the number of the last choice
abbrev pub frame_of : Core → ℕ → Option Frame
frame_of s n = cond (n == s.choices) s.out None

-- fewer than 2^30 reports and shows have been accepted
abbrev pub has_room : Core → Bool
has_room s = nat_lt s.accepted (2 ^ 30)

-- the number of the next choice
abbrev pub next_number : Core → ℕ
next_number s = (s.choices + 1) % 2 ^ 64

-- the core with no ticket out
abbrev pub cleared_core : Core → Core
cleared_core s = record {
  profile = s.profile;
  reservoir = s.reservoir;
  rate_bias = s.rate_bias;
  accepted = s.accepted;
  coded = s.coded;
  reports = s.reports;
  choices = s.choices;
  out = None;
}

-- the core with the ticket of a new choice out
abbrev pub chosen_core : Core → Frame → Core
chosen_core s f = record {
  profile = s.profile;
  reservoir = s.reservoir;
  rate_bias = s.rate_bias;
  accepted = s.accepted;
  coded = s.coded;
  reports = s.reports;
  choices = next_number s;
  out = Some f;
}
