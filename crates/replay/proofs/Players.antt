-- The stair of a run, the curve of its settings, and the answers over each.
use Rattle.std.proofs.Common.{◌≡◌, ℕ, List, [], Ok, Err, Result, refl, arith}
use Rattle.model.specs.Meaning.{Meaning}
use Rattle.calls.specs.declared.call.Call.{Call}
use Rattle.controller.specs.Opening.{opened_from}
use Rattle.model.specs.Questions.{and_then}
use Rattle.model.specs.declared.curve.Curve.{Curve}
use Rattle.model.specs.declared.refusal.Refusal.{Refusal}
use Rattle.model.specs.declared.settings.Accepted.{Accepted}
use Rattle.outlook.specs.declared.known.Known.{Known}
use Rattle.replay.specs.Answers.{answers_from}

-- where no curve can be made, the opening is refused
pub no_curve : {M : Type 0} (meaning : Meaning M) (os : List Known) (m : M) (cs : List Call) (r : Result Accepted Refusal) (x : Curve) (e : Refusal)
    → Err e ≡ and_then r (λ _. Ok x) → answers_from meaning os m cs (opened_from r) ≡ []
no_curve meaning os m cs (Ok a) x e h = absurd (let n : ◌≡◌ {A = ℕ} 0 1 = cc in omega arith)
no_curve meaning os m cs (Err f) x e h = refl

-- a curve that is made is that of its settings
pub is_curve : (r : Result Accepted Refusal) (x y : Curve) → Ok y ≡ and_then r (λ _. Ok x) → y ≡ x
is_curve (Ok a) x y h = cc
is_curve (Err f) x y h = absurd (let n : ◌≡◌ {A = ℕ} 0 1 = cc in omega arith)
