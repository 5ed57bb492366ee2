-- The replies to a whole script.
use Rattle.std.specs.Prelude.{ℕ, List, [], ◌∷◌, take, Some, None, Option}
use Rattle.calls.specs.declared.answer.Answer.{Answer}
use Rattle.calls.specs.declared.call.Call.{Call}
use Rattle.model.specs.declared.settings.Settings.{Settings}
use Rattle.scripts.specs.declared.line.Line.{Line}
use Rattle.replies.specs.declared.reply.Reply.{Reply}
use Rattle.replies.specs.declared.standing.Standing.{Standing}
use Rattle.replies.specs.Blocks.{after, call_of, calls_of, opening_of, first_opening, until_open}
use Rattle.replies.specs.Replied.{replied, next_answer, left}

-- the answers to the calls of a run, by its settings, the place of its stair, or none for the curve, and its calls
abbrev pub Runs : Type 0
Runs = Settings → Option ℕ → List Call → List Answer

-- an opening begins with the answers of its own run, and any other line goes on with those that are left
abbrev pub begun : Option Settings → (Settings → List Answer) → List Answer → List Answer
begun None f xs = xs
begun (Some o) f xs = f o

-- the answers to the calls of some lines: of the run that the first of them opens, or none
abbrev pub block_answers : Runs → Standing → List Line → List Answer
block_answers run s ls = begun (first_opening ls) (λ o. run o s.stair (calls_of s ls)) []

-- the answers that a line and those after it have: an opening runs its calls and those of the lines up to the next
abbrev pub had : Runs → Standing → Line → List Line → List Answer → List Answer
had run s l ls xs = begun (opening_of l) (λ o. run o s.stair (calls_of s (l ∷ take (until_open ls) ls))) xs

-- the reply to each line, where each line that makes a call takes the next of the answers that are left
unfoldable pub played : Runs → Standing → List Answer → List Line → List Reply
played run s xs [] = []
played run s xs (l ∷ ls) =
    replied l (next_answer l (had run s l ls xs)) ∷ played run (after s l) (left (call_of None l) (had run s l ls xs)) ls
