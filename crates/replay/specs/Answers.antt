-- The answers of a script's runs.
use Rattle.std.specs.Prelude.{ℕ, List, [], Some, None, Ok, Err, Option, Result}
use Rattle.std.specs.List.{slice_get}
use Rattle.model.specs.Meaning.{Meaning}
use Rattle.calls.specs.declared.answer.Answer.{Answer}
use Rattle.calls.specs.declared.call.Call.{Call}
use Rattle.controller.specs.declared.state.Core.{Core}
use Rattle.controller.specs.Opening.{opened}
use Rattle.model.specs.Curves.{curve_of, curve_meaning}
use Rattle.model.specs.declared.refusal.Refusal.{Refusal}
use Rattle.model.specs.declared.settings.Settings.{Settings}
use Rattle.outlook.specs.Either.{entries_known}
use Rattle.outlook.specs.declared.known.Known.{Known}
use Rattle.run.specs.Answers.{answers_to}
use Rattle.stair.specs.Stairs.{stair_meaning}
use Rattle.stair.specs.declared.stair.Stair.{Stair}

module _ {M : Type 0} (meaning : Meaning M) (outlooks : List Known) (model : M) (calls : List Call) where
  -- the answers to the calls of a run that opens with a core; none where its opening is refused
  abbrev pub answers_from : Result Core Refusal → List Answer
  answers_from (Ok core) = answers_to meaning entries_known outlooks (record { core = core; model = model }) calls
  answers_from (Err e) = []

  -- the answers to the calls of a run with some settings
  abbrev pub run_answers : Settings → List Answer
  run_answers s = answers_from (opened s)

-- the stair at a place, if there is one
abbrev pub stair_at : List Stair → Option ℕ → Option Stair
stair_at stairs None = None
stair_at stairs (Some i) = slice_get stairs i

-- the answers of a run over a stair, or over a curve where there is none
abbrev pub model_answers : Option Stair → List Known → Settings → List Call → List Answer
model_answers (Some st) os s cs = run_answers stair_meaning os st cs s
model_answers None os s cs = run_answers curve_meaning os (curve_of s) cs s
