-- The numbers of refusals, and the bits of a show.
use Rattle.std.specs.Prelude.{ℕ}
use Rattle.calls.specs.declared.refusal.Refusal.{Refusal}
use Rattle.calls.specs.declared.refusal.Refusal.TheVariants.{TicketOut, NoSuchSubtype, NoMoreFrames, NotThatTicket, NoTrialDue, NoBits}

-- the number of each question: 11 and 12 are choose's, 13 is report's and show's, 21 is of every call with a ticket but withdraw, 23 and 24 are trial's
abbrev pub number : Refusal → ℕ
number TicketOut = 11
number NoSuchSubtype = 12
number NoMoreFrames = 13
number NotThatTicket = 21
number NoTrialDue = 23
number NoBits = 24

-- the bits of the show of an existing frame
abbrev pub sef_bits : ℕ
sef_bits = 24
