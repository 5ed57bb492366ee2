-- Trials, reports, shows, withdrawals and the status.
use Rattle.std.specs.Prelude.{ℕ, Bool, true, false, cond, ℤ, pos, Some, None, Ok, Option, ◌==◌, slice_index}
use Rattle.model.specs.Meaning.{Meaning}
use Rattle.model.specs.declared.lesson.Lesson.{Lesson}
use Rattle.flat.specs.Flat.{code_of}
use Rattle.flat.specs.declared.subtype.Subtype.{Subtype}
use Rattle.calls.specs.declared.answer.Reported.{Reported}
use Rattle.calls.specs.declared.answer.Status.{Status}
use Rattle.calls.specs.declared.refusal.Refusal.TheVariants.{TicketOut, NoMoreFrames, NotThatTicket, NoTrialDue, NoBits}
use Rattle.controller.specs.declared.state.Core.{Core}
use Rattle.controller.specs.declared.state.Frame.{Frame}
use Rattle.controller.specs.Charging.{is_dropped, charged, reported_core, shown_core}
use Rattle.controller.specs.After.{After, refused, any_out, frame_of, has_room, cleared_core}

-- the accepted reports of a subtype
abbrev pub reports_of : Core → Subtype → ℕ
reports_of s k = slice_index s.reports (code_of k)

-- what the bits of a frame teach, in a trial or not
abbrev pub lesson_of : Core → Frame → ℕ → Bool → Lesson
lesson_of s f bits trial = record {
  subtype = code_of f.subtype;
  bits = bits;
  log_q = f.log_q;
  trial = trial;
  reports = reports_of s f.subtype;
}

-- ---- the questions: the number of the first no, or 0

-- is this the ticket that is out? is there room?
abbrev pub report_question_on : Option Frame → Bool → ℕ
report_question_on None room = 21
report_question_on (Some f) room = cond room 0 13

abbrev pub report_question : Core → ℕ → ℕ
report_question s n = report_question_on (frame_of s n) (has_room s)

-- is this the ticket that is out? has the subtype no accepted report? are the bits at least 1?
abbrev pub trial_question_on : Core → Option Frame → ℕ → ℕ
trial_question_on s None bits = 21
trial_question_on s (Some f) bits = cond (reports_of s f.subtype == 0) (cond (bits == 0) 24 0) 23

abbrev pub trial_question : Core → ℕ → ℕ → ℕ
trial_question s n bits = trial_question_on s (frame_of s n) bits

-- is no ticket out? is there room?
abbrev pub show_question : Core → ℕ
show_question s = cond (any_out s.out) 11 (cond (has_room s) 0 13)

-- ---- what the calls leave and answer

module _ {M : Type 0} (meaning : Meaning M) (s : Core) (m : M) where
  -- what the model predicted of a frame
  abbrev pub predicted : Frame → ℤ
  predicted f = pos (meaning.count m (code_of f.subtype) f.log_q)

  -- the model after a lesson of a frame; bits of 0 teach nothing
  abbrev pub taught : Frame → ℕ → Bool → M
  taught f bits trial = cond (bits == 0) m (meaning.next m (lesson_of s f bits trial))

  -- a report is predicted by the model as it was, learned from, and charged
  abbrev pub report_on : Option Frame → Bool → ℕ → Bool → Bool → After M Reported
  report_on None room bits shown droppable = refused s m NotThatTicket
  report_on (Some f) false bits shown droppable = refused s m NoMoreFrames
  report_on (Some f) true bits shown droppable = record {
    core = reported_core s f.subtype (predicted f) bits shown droppable;
    model = taught f bits false;
    answer = Ok (record { charge = charged s bits droppable; dropped = is_dropped s bits droppable });
  }

  abbrev pub report_after : ℕ → ℕ → Bool → Bool → After M Reported
  report_after n bits shown droppable = report_on (frame_of s n) (has_room s) bits shown droppable

  -- the questions of a trial of a frame, in their order, after that of its ticket
  abbrev pub trial_of : Frame → Bool → Bool → ℕ → After M (Unit {0})
  trial_of f false none bits = refused s m NoTrialDue
  trial_of f true true bits = refused s m NoBits
  trial_of f true false bits = record {
    core = cleared_core s;
    model = meaning.next m (lesson_of s f bits true);
    answer = Ok tt;
  }

  -- a trial only teaches
  abbrev pub trial_on : Option Frame → ℕ → After M (Unit {0})
  trial_on None bits = refused s m NotThatTicket
  trial_on (Some f) bits = trial_of f (reports_of s f.subtype == 0) (bits == 0) bits

  abbrev pub trial_after : ℕ → ℕ → After M (Unit {0})
  trial_after n bits = trial_on (frame_of s n) bits

module _ {M : Type 0} (s : Core) (m : M) where
  -- a show is charged, and brings a credit
  abbrev pub show_on : Bool → Bool → After M (Unit {0})
  show_on true room = refused s m TicketOut
  show_on false false = refused s m NoMoreFrames
  show_on false true = record { core = shown_core s; model = m; answer = Ok tt }

  abbrev pub show_after : After M (Unit {0})
  show_after = show_on (any_out s.out) (has_room s)

-- a withdrawal of the ticket that is out clears the mark; any other changes nothing
abbrev pub withdrawn_on : Core → Option Frame → Core
withdrawn_on s None = s
withdrawn_on s (Some f) = cleared_core s

abbrev pub withdrawn_core : Core → ℕ → Core
withdrawn_core s n = withdrawn_on s (frame_of s n)

-- what the status tells
abbrev pub status_of : Core → Status
status_of s = record {
  fullness = s.reservoir.fullness;
  credit = s.reservoir.credit;
  limit = s.reservoir.limit;
  rate_bias = s.rate_bias;
  coded = s.coded;
  out = any_out s.out;
}
