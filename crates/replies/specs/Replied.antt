-- What a line is replied.
use Rattle.std.specs.Prelude.{ℕ, List, [], ◌∷◌, Some, None, Ok, Err, Option, Result}
use Rattle.calls.specs.declared.answer.Answer.{Answer}
use Rattle.calls.specs.declared.answer.Answer.TheVariants as answer
use Rattle.calls.specs.declared.call.Call.{Call}
use Rattle.model.specs.Questions.{accepted}
use Rattle.model.specs.declared.refusal.Refusal.{Refusal}
use Rattle.model.specs.declared.settings.Accepted.{Accepted}
use Rattle.model.specs.declared.settings.Settings.{Settings}
use Rattle.scripts.specs.declared.line.Line.{Line}
use Rattle.scripts.specs.declared.line.Line.TheVariants as line
use Rattle.replies.specs.declared.reason.Reason.{Reason}
use Rattle.replies.specs.declared.reason.Reason.TheVariants as reason
use Rattle.replies.specs.declared.reply.Name.{Name}
use Rattle.replies.specs.declared.reply.Name.TheVariants.{Curve, Stair, List as Listed, Pattern, Open, Choose, Trial, Report, Withdraw, Show, Status}
use Rattle.replies.specs.declared.reply.Reply.{Reply}
use Rattle.replies.specs.declared.reply.Reply.TheVariants.{Accepted as Took, Refused, Closed, Opened, Chosen, Charged, Told}
use Rattle.replies.specs.Blocks.{call_of}

-- the name of a line
abbrev pub name_of : Line → Name
name_of line.Curve = Curve
name_of (line.Stair m) = Stair
name_of (line.List m) = Listed
name_of (line.Pattern m) = Pattern
name_of (line.Open s) = Open
name_of (line.Choose k p m) = Choose
name_of (line.Trial t b) = Trial
name_of (line.Report t b v d) = Report
name_of (line.Withdraw t) = Withdraw
name_of line.Show = Show
name_of line.Status = Status

-- an outlook or a stair was made, or refused
abbrev pub made_as : {E : Type 0} → Name → (E → Reason) → Result ℕ E → Reply
made_as n f (Ok k) = Took n
made_as n f (Err e) = Refused n (f e)

-- an opening that was refused tells the question
abbrev pub refused_as : Result Accepted Refusal → Reply
refused_as (Ok a) = Closed Open
refused_as (Err e) = Refused Open (reason.Opening e)

-- the first question of the settings that is answered by no
abbrev pub unopened : Settings → Reply
unopened s = refused_as (accepted s)

-- a line without an answer: a call found no open run, and an opening was refused
abbrev pub unanswered : Line → Reply
unanswered line.Curve = Took Curve
unanswered (line.Stair m) = made_as Stair reason.Stair m
unanswered (line.List m) = made_as Listed reason.Outlook m
unanswered (line.Pattern m) = made_as Pattern reason.Outlook m
unanswered (line.Open s) = unopened s
unanswered (line.Choose k p m) = Closed Choose
unanswered (line.Trial t b) = Closed Trial
unanswered (line.Report t b v d) = Closed Report
unanswered (line.Withdraw t) = Closed Withdraw
unanswered line.Show = Closed Show
unanswered line.Status = Closed Status

-- an opening tells the figures of its first status; a status has no other answer
abbrev pub opened_by : Answer → Reply
opened_by (answer.Chosen t d) = Closed Open
opened_by answer.Tried = Closed Open
opened_by (answer.Charged r) = Closed Open
opened_by answer.Withdrawn = Closed Open
opened_by answer.Shown = Closed Open
opened_by (answer.Told s) = Opened s
opened_by (answer.Refused e) = Closed Open

-- a call of a name tells its answer
abbrev pub answered : Name → Answer → Reply
answered n (answer.Chosen t d) = Chosen t d
answered n answer.Tried = Took n
answered n (answer.Charged r) = Charged r
answered n answer.Withdrawn = Took n
answered n answer.Shown = Took n
answered n (answer.Told s) = Told s
answered n (answer.Refused e) = Refused n (reason.Call e)

-- the reply to a line that has an answer: an opening tells its figures, any other line its answer
abbrev pub told_by : Name → Answer → Reply
told_by Open a = opened_by a
told_by Curve a = answered Curve a
told_by Stair a = answered Stair a
told_by Listed a = answered Listed a
told_by Pattern a = answered Pattern a
told_by Choose a = answered Choose a
told_by Trial a = answered Trial a
told_by Report a = answered Report a
told_by Withdraw a = answered Withdraw a
told_by Show a = answered Show a
told_by Status a = answered Status a

-- the reply to a line, by the answer to its call if it has one
abbrev pub replied : Line → Option Answer → Reply
replied l None = unanswered l
replied l (Some a) = told_by (name_of l) a

-- the first answer, if there is one
abbrev pub first : List Answer → Option Answer
first [] = None
first (a ∷ xs) = Some a

-- the answers after the first
abbrev pub rest : List Answer → List Answer
rest [] = []
rest (a ∷ xs) = xs

-- a call takes the first answer, and what is no call takes none
abbrev pub taken : Option Call → List Answer → Option Answer
taken None xs = None
taken (Some c) xs = first xs

-- a call leaves the answers after the first, and what is no call leaves all
abbrev pub left : Option Call → List Answer → List Answer
left None xs = xs
left (Some c) xs = rest xs

-- the answer that a line takes
abbrev pub next_answer : Line → List Answer → Option Answer
next_answer l xs = taken (call_of None l) xs

-- the replies to some lines, where each line that makes a call takes the next answer
unfoldable pub replies_of : List Line → List Answer → List Reply
replies_of [] xs = []
replies_of (l ∷ ls) xs = replied l (next_answer l xs) ∷ replies_of ls (left (call_of None l) xs)
