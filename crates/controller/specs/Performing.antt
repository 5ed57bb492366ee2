-- A recorded call: what it answers, and the core and the model that it leaves.
use Rattle.std.specs.Prelude.{ℕ, zero, suc, List, [], ◌∷◌, Ok, Err, Result}
use Rattle.model.specs.Meaning.{Meaning}
use Rattle.calls.specs.declared.answer.Decision.{Decision}
use Rattle.calls.specs.declared.answer.Reported.{Reported}
use Rattle.calls.specs.declared.answer.Answer.{Answer}
use Rattle.calls.specs.declared.answer.Answer.TheVariants.{Chosen, Tried, Charged, Withdrawn, Shown, Told, Refused}
use Rattle.calls.specs.declared.call.Call.{Call}
use Rattle.calls.specs.declared.call.Call.TheVariants.{Choose, Trial, Report, Withdraw, Show, Status}
use Rattle.calls.specs.declared.refusal.Refusal.{Refusal}
use Rattle.controller.specs.declared.state.Core.{Core}
use Rattle.controller.specs.After.{next_number}
use Rattle.controller.specs.Choosing.{choose_after}
use Rattle.controller.specs.Reporting.{report_after, trial_after, show_after, withdrawn_core, status_of}

-- the entries of the outlook at a place of a list; a place outside it stands for no entries
abbrev pub entries_at : {O : Type 0} → (O → List ℕ) → List O → ℕ → List ℕ
entries_at entries [] i = []
entries_at entries (o ∷ os) zero = entries o
entries_at entries (o ∷ os) (suc i) = entries_at entries os i

-- what a choice is told as: with the number of its ticket
abbrev pub of_choose : ℕ → Result Decision Refusal → Answer
of_choose n (Ok d) = Chosen n d
of_choose n (Err e) = Refused e

-- what a trial is told as
abbrev pub of_trial : Result (Unit {0}) Refusal → Answer
of_trial (Ok _) = Tried
of_trial (Err e) = Refused e

-- what a report is told as
abbrev pub of_report : Result Reported Refusal → Answer
of_report (Ok r) = Charged r
of_report (Err e) = Refused e

-- what a show is told as
abbrev pub of_show : Result (Unit {0}) Refusal → Answer
of_show (Ok _) = Shown
of_show (Err e) = Refused e

module _ {M O : Type 0} (meaning : Meaning M) (entries : O → List ℕ) (outlooks : List O) where
  -- the answer to a call
  abbrev pub answer_to : Core → M → Call → Answer
  answer_to s m (Choose k i previous mean) = of_choose (next_number s) (choose_after meaning s m (entries_at entries outlooks i) k previous mean).answer
  answer_to s m (Trial n bits) = of_trial (trial_after meaning s m n bits).answer
  answer_to s m (Report n bits shown droppable) = of_report (report_after meaning s m n bits shown droppable).answer
  answer_to s m (Withdraw n) = Withdrawn
  answer_to s m Show = of_show (show_after s m).answer
  answer_to s m Status = Told (status_of s)

  -- the core after a call
  abbrev pub core_after : Core → M → Call → Core
  core_after s m (Choose k i previous mean) = (choose_after meaning s m (entries_at entries outlooks i) k previous mean).core
  core_after s m (Trial n bits) = (trial_after meaning s m n bits).core
  core_after s m (Report n bits shown droppable) = (report_after meaning s m n bits shown droppable).core
  core_after s m (Withdraw n) = withdrawn_core s n
  core_after s m Show = (show_after s m).core
  core_after s m Status = s

  -- the model after a call: only trials and reports teach
  abbrev pub model_after : Core → M → Call → M
  model_after s m (Choose k i previous mean) = m
  model_after s m (Trial n bits) = (trial_after meaning s m n bits).model
  model_after s m (Report n bits shown droppable) = (report_after meaning s m n bits shown droppable).model
  model_after s m (Withdraw n) = m
  model_after s m Show = m
  model_after s m Status = m
