-- The laws of a controller, over the history of its calls since the opening.
use Rattle.std.specs.Prelude.{◌≡◌, ℕ, ◌+◌, ◌%◌, ◌^◌, ◌≤◌, Bool, true, List, [], ◌∷◌, ◌++◌, map, ℤ, ◌+ℤ◌, ◌≤ℤ◌, Option}
use Rattle.std.specs.List.{ContainsAt, AllByRecursion}
use Rattle.model.specs.Meaning.{Meaning}
use Rattle.outlook.specs.declared.counts.Counts.{Counts}
use Rattle.search.specs.Predict.{forecast}
use Rattle.search.specs.Hunt.{Hits}
use Rattle.calls.specs.declared.call.Call.{Call}
use Rattle.calls.specs.declared.call.Call.TheVariants.{Choose, Trial, Report, Withdraw, Show, Status}
use Rattle.calls.specs.declared.answer.Answer.{Answer}
use Rattle.calls.specs.declared.answer.Answer.TheVariants.{Chosen, Tried, Charged, Withdrawn, Shown, Told, Refused}
use Rattle.calls.specs.declared.answer.Decision.{Decision}
use Rattle.calls.specs.declared.answer.Status.{Status as StatusRecord}
use Rattle.controller.specs.declared.state.Core.{Core}
use Rattle.controller.specs.declared.state.Reservoir.{Reservoir}
use Rattle.controller.specs.Choosing.{ahead, total, bottom, top}
use Rattle.controller.specs.Performing.{entries_at}
use Rattle.run.specs.Ledger.{History, Entry, ledger, credits, charges, sums}
use Rattle.run.specs.Answers.{State, state_after_all}

-- ---- fullness

-- x is one of the numbers, and no more than any of them
pub record Least (x : ℤ) (xs : List ℤ) : Type 0 where
  pub reached : ContainsAt xs x
  pub bound : AllByRecursion (λ y. x ≤ℤ y) xs

-- wherever a status was told, its fullness is the least of the sums over what came before; r is the reservoir as it opened
abbrev pub Fullness : Reservoir → History → Type 0
Fullness r all =
    (before after : History) (s : StatusRecord) → all ≡ before ++ (Status, Told s) ∷ after
    → Least s.fullness (sums r.fullness r.limit (ledger r.credit before))

-- ---- charges

-- a report, if its answer says that it was accepted, was marked droppable
abbrev pub if_accepted : Bool → Answer → Type 0
if_accepted droppable (Chosen n d) = Unit {0}
if_accepted droppable Tried = Unit {0}
if_accepted droppable (Charged r) = droppable ≡ true
if_accepted droppable Withdrawn = Unit {0}
if_accepted droppable Shown = Unit {0}
if_accepted droppable (Told s) = Unit {0}
if_accepted droppable (Refused e) = Unit {0}

-- a call, if it is an accepted report, was marked droppable
abbrev pub Droppable : Call × Answer → Type 0
Droppable (Choose k i previous mean, a) = Unit {0}
Droppable (Trial n bits, a) = Unit {0}
Droppable (Report n bits shown droppable, a) = if_accepted droppable a
Droppable (Withdraw n, a) = Unit {0}
Droppable (Show, a) = Unit {0}
Droppable (Status, a) = Unit {0}

-- with dropping on, in every front part whose accepted reports were all droppable, consecutive accepted reports and shows
-- are together charged at most the limit, plus a credit for each shown frame among them, plus one credit
abbrev pub Charges : Bool → Reservoir → History → Type 0
Charges dropping r all =
    dropping ≡ true
    → (past rest : History) → all ≡ past ++ rest → AllByRecursion Droppable past
    → (before stretch after : List Entry) → ledger r.credit past ≡ before ++ (stretch ++ after)
    → charges stretch ≤ℤ (r.limit +ℤ credits stretch +ℤ r.credit)

-- ---- choices

-- an accepted choice, counted
abbrev pub choice : Answer → ℕ
choice (Chosen n d) = 1
choice Tried = 0
choice (Charged r) = 0
choice Withdrawn = 0
choice Shown = 0
choice (Told s) = 0
choice (Refused e) = 0

-- the accepted choices of a history
abbrev pub choices : History → ℕ
choices [] = 0
choices (e ∷ es) = choice e.1 + choices es

-- the ticket of an accepted choice has its number among the accepted choices, modulo 2^64
abbrev pub Numbers : History → Type 0
Numbers all =
    (before after : History) (k i : ℕ) (previous : Option ℤ) (mean : ℤ) (n : ℕ) (d : Decision)
    → all ≡ before ++ (Choose k i previous mean, Chosen n d) ∷ after
    → n ≡ (choices before + 1) % 2 ^ 64

-- the figures of a choice in a state, by the counts a of the frames ahead: the total is that of the rule for totals, at
-- most 60 bases were compared, and the found base predicts the total or lies where the predictions cross it; bottom and
-- top are those of the core as it opened
pub record Meets {M : Type 0} (meaning : Meaning M) (opened : Core) (x : State M) (a : Counts) (d : Decision) : Type 0 where
  pub total_is : d.total ≡ total x.core a
  pub few : d.tries ≤ 60
  pub hits : Hits (forecast meaning x.model a.kinds) d.total (bottom opened) (top opened) d.found

module _ {M O : Type 0} (meaning : Meaning M) (entries : O → List ℕ) (outlooks : List O) (opened : State M) where
  -- what the controller held after a part of the history
  abbrev pub state_in : History → State M
  state_in before = state_after_all meaning entries outlooks opened (map (λ e. e.0) before)

  -- every accepted choice does so, by the core and the model at that choice and the outlook that it names, counted for
  -- delay units
  abbrev pub Crossing : History → Type 0
  Crossing all =
      (before after : History) (k i : ℕ) (previous : Option ℤ) (mean : ℤ) (n : ℕ) (d : Decision)
      → all ≡ before ++ (Choose k i previous mean, Chosen n d) ∷ after
      → Meets meaning opened.core (state_in before) (ahead opened.core (entries_at entries outlooks i)) d

  -- all laws of a history
  pub record Laws (all : History) : Type 0 where
    pub fullness : Fullness opened.core.reservoir all
    pub charges : Charges opened.core.profile.dropping opened.core.reservoir all
    pub numbers : Numbers all
    pub crossing : Crossing all
