use Rattle.std.proofs.Common.{◌≡◌, List, IfOk, Some, None, vec_items, Option, sym, ◌∙◌, subst}
use Rattle.model.specs.Curves.{curve_of, curve_meaning}
use Rattle.model.specs.Questions.{accepted}
use Rattle.model.specs.declared.curve.Curve.{Curve}
use Rattle.outlook.specs.declared.known.Known.{Known}
use Rattle.stair.specs.declared.stair.Stair.{Stair}
use Rattle.replay.specs.Answers.{run_answers, stair_at, model_answers}
use Rattle.replay.proofs.Players.{no_curve, is_curve}
use Rattle.replay.proofs.player.PlayerRunner.run.Goals as goal

pub returns-in_default-new : goal.returns-in_default-new
returns-in_default-new c =
    let s = c.args.settings.now in
    let cs = c.args.calls.now in
    let os = vec_items c.args.self.now.script.now.outlooks in
    let e : stair_at (vec_items c.args.self.now.script.now.stairs) c.args.stair ≡ None = subst (λ (xs : List Stair). stair_at xs c.args.stair ≡ None) c.as_slice.ensures.value (sym c.stair_at.ensures ∙ c.in_default.is) in
    subst (λ (o : Option Stair). vec_items c.new-in_default-new.result ≡ model_answers o os s cs) (sym e)
    (c.new-in_default-new.ensures.items ∙ sym (no_curve curve_meaning os (curve_of s) cs (accepted s) (curve_of s) c.in_default-new.field-0 c.in_default-new.ensures.made))

pub returns : goal.returns
returns c =
    let s = c.args.settings.now in
    let cs = c.args.calls.now in
    let e : stair_at (vec_items c.args.self.now.script.now.stairs) c.args.stair ≡ None = subst (λ (xs : List Stair). stair_at xs c.args.stair ≡ None) c.as_slice.ensures.value (sym c.stair_at.ensures ∙ c.in_default.is) in
    let f = is_curve (accepted s) (curve_of s) c.in-Ok.curve c.in-Ok.ensures.made in
    subst (λ (o : Option Stair). IfOk c.answers_by-2.result (λ v. vec_items v ≡ model_answers o (vec_items c.args.self.now.script.now.outlooks) s cs)) (sym e)
    (subst (λ (os : List Known). IfOk c.answers_by-2.result (λ v. vec_items v ≡ model_answers None os s cs)) c.as_slice-outlooks.ensures.value
    (subst (λ (m : Curve). IfOk c.answers_by-2.result (λ v. vec_items v ≡ run_answers curve_meaning c.as_slice-outlooks.result.now m cs s)) f c.answers_by-2.ensures))
