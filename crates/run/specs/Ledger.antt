-- What the accepted reports and shows of a history charge and bring, by the calls and their answers alone.
use Rattle.std.specs.Prelude.{ℕ, Bool, cond, List, [], ◌∷◌, ◌++◌, ℤ, pos, ◌+ℤ◌, ◌-ℤ◌}
use Rattle.calls.specs.Numbers.{sef_bits}
use Rattle.calls.specs.declared.call.Call.{Call}
use Rattle.calls.specs.declared.call.Call.TheVariants.{Choose, Trial, Report, Withdraw, Show, Status}
use Rattle.calls.specs.declared.answer.Answer.{Answer}
use Rattle.calls.specs.declared.answer.Answer.TheVariants.{Chosen, Tried, Charged, Withdrawn, Shown, Told, Refused}

-- the calls since the opening, each beside its answer
abbrev pub History : Type 0
History = List (Call × Answer)

-- an accepted report or show: the bits that it is charged, and the bits that it brings
pub record Entry : Type 0 where
  pub charge : ℤ
  pub credit : ℤ

-- an accepted report is charged its bits, or 0 if it was told as dropped; if marked shown, dropped or not, it brings a credit
abbrev pub report_entry : ℤ → ℕ → Bool → Answer → List Entry
report_entry credit bits shown (Chosen n d) = []
report_entry credit bits shown Tried = []
report_entry credit bits shown (Charged r) = record { charge = pos (cond r.dropped 0 bits); credit = cond shown credit (pos 0) } ∷ []
report_entry credit bits shown Withdrawn = []
report_entry credit bits shown Shown = []
report_entry credit bits shown (Told s) = []
report_entry credit bits shown (Refused e) = []

-- an accepted show is charged 24 bits, and brings a credit
abbrev pub show_entry : ℤ → Answer → List Entry
show_entry credit (Chosen n d) = []
show_entry credit Tried = []
show_entry credit (Charged r) = []
show_entry credit Withdrawn = []
show_entry credit Shown = record { charge = pos sef_bits; credit = credit } ∷ []
show_entry credit (Told s) = []
show_entry credit (Refused e) = []

-- the entry of a call, if it is an accepted report or show
abbrev pub entry : ℤ → Call → Answer → List Entry
entry credit (Choose k i previous mean) a = []
entry credit (Trial n bits) a = []
entry credit (Report n bits shown droppable) a = report_entry credit bits shown a
entry credit (Withdraw n) a = []
entry credit Show a = show_entry credit a
entry credit Status a = []

-- the accepted reports and shows of a history, in their order
abbrev pub ledger : ℤ → History → List Entry
ledger credit [] = []
ledger credit (e ∷ es) = entry credit e.0 e.1 ++ ledger credit es

-- what the entries bring together
abbrev pub credits : List Entry → ℤ
credits [] = pos 0
credits (e ∷ es) = e.credit +ℤ credits es

-- what the entries are charged together
abbrev pub charges : List Entry → ℤ
charges [] = pos 0
charges (e ∷ es) = e.charge +ℤ charges es

-- for each entry: the limit, plus later credits, less later charges
abbrev pub capped_sums : ℤ → List Entry → List ℤ
capped_sums limit [] = []
capped_sums limit (e ∷ es) = (limit +ℤ credits es -ℤ charges es) ∷ capped_sums limit es

-- opening fullness plus all credits less all charges; and for each entry the limit, plus later credits, less later charges
abbrev pub sums : ℤ → ℤ → List Entry → List ℤ
sums opening limit es = (opening +ℤ credits es -ℤ charges es) ∷ capped_sums limit es
