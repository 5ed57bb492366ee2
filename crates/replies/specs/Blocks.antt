-- What stands at a line of a script, which lines belong together, and the calls that they make.
use Rattle.std.specs.Prelude.{ℕ, suc, ◌-◌, ◌^◌, Bool, cond, List, [], ◌∷◌, is_some, Some, None, Ok, Err, Option, Result}
use Rattle.std.specs.List.{cons_option, fold}
use Rattle.calls.specs.declared.call.Call.{Call}
use Rattle.calls.specs.declared.call.Call.TheVariants as call
use Rattle.model.specs.declared.settings.Settings.{Settings}
use Rattle.scripts.specs.declared.line.Line.{Line}
use Rattle.scripts.specs.declared.line.Line.TheVariants.{Curve, Stair, List as Listed, Pattern, Open, Choose, Trial, Report, Withdraw, Show, Status}
use Rattle.replies.specs.declared.standing.Standing.{Standing}

-- at first no outlook stands, and the curve
abbrev pub at_first : Standing
at_first = record { outlook = None; stair = None }

-- a stair that was made stands from there on
abbrev pub with_stair : {E : Type 0} → Standing → Result ℕ E → Standing
with_stair s (Ok k) = record { outlook = s.outlook; stair = Some k }
with_stair s (Err e) = s

-- an outlook that was made stands from there on
abbrev pub with_outlook : {E : Type 0} → Standing → Result ℕ E → Standing
with_outlook s (Ok k) = record { outlook = Some k; stair = s.stair }
with_outlook s (Err e) = s

-- what stands after a line
abbrev pub after : Standing → Line → Standing
after s Curve = record { outlook = s.outlook; stair = None }
after s (Stair m) = with_stair s m
after s (Listed m) = with_outlook s m
after s (Pattern m) = with_outlook s m
after s (Open o) = s
after s (Choose k p m) = s
after s (Trial t b) = s
after s (Report t b v d) = s
after s (Withdraw t) = s
after s Show = s
after s Status = s

-- what stands after some lines
abbrev pub stands : Standing → List Line → Standing
stands s ls = fold after s ls

-- the place that a recorded choice names: where no outlook stands, one that no script has, since no list is as long as
-- 2^64 - 1
abbrev pub place_of : Option ℕ → ℕ
place_of None = 2 ^ 64 - 1
place_of (Some k) = k

-- the call that a line makes where an outlook stands: an opening asks for the status
abbrev pub call_of : Option ℕ → Line → Option Call
call_of o Curve = None
call_of o (Stair m) = None
call_of o (Listed m) = None
call_of o (Pattern m) = None
call_of o (Open s) = Some call.Status
call_of o (Choose k p m) = Some (call.Choose k (place_of o) p m)
call_of o (Trial t b) = Some (call.Trial t b)
call_of o (Report t b v d) = Some (call.Report t b v d)
call_of o (Withdraw t) = Some (call.Withdraw t)
call_of o Show = Some call.Show
call_of o Status = Some call.Status

-- the calls that some lines make, each with the outlook that stands at its line
unfoldable pub calls_of : Standing → List Line → List Call
calls_of s [] = []
calls_of s (l ∷ ls) = cons_option (call_of s.outlook l) (calls_of (after s l) ls)

-- the settings of a line that opens a run
abbrev pub opening_of : Line → Option Settings
opening_of Curve = None
opening_of (Stair m) = None
opening_of (Listed m) = None
opening_of (Pattern m) = None
opening_of (Open s) = Some s
opening_of (Choose k p m) = None
opening_of (Trial t b) = None
opening_of (Report t b v d) = None
opening_of (Withdraw t) = None
opening_of Show = None
opening_of Status = None

-- the settings of the run that some lines open, if the first of them opens one
abbrev pub first_opening : List Line → Option Settings
first_opening [] = None
first_opening (l ∷ ls) = opening_of l

-- does a line open a run?
abbrev pub opens : Line → Bool
opens l = is_some (opening_of l)

-- how many lines stand before the next opening
unfoldable pub until_open : List Line → ℕ
until_open [] = 0
until_open (l ∷ ls) = cond (opens l) 0 (suc (until_open ls))

-- the first line, and what stands before the next opening
abbrev pub block_length : List Line → ℕ
block_length [] = 0
block_length (l ∷ ls) = suc (until_open ls)
