-- By the bands of both functions.
use Rattle.std.proofs.Common.{◌≡◌, ℤ, pos, sym, ap, ◌∙◌, subst, w64, SFits, to_z, of_z, rules}
use Rattle.std.proofs.lemmas.Int.{to_z-of_z}
use Rattle.logexp.specs.LogExp.{bexp64}
use Rattle.model.specs.Scales.{counted}
use Rattle.model.specs.Laws.{NearSeen}
use Rattle.model.proofs.Filters.{counted_is}
use Rattle.model.proofs.Seen.{near_seen}
use Rattle.model.proofs.laws.predicted_again.Goals as goal

pub returns : goal.returns
returns c =
    let f1 : SFits w64 c.blog64.result = search rules in
    let f2 : SFits w64 c.bexp64.result = search rules in
    let f0 : SFits w64 c.signed.result = search rules in
    let e : to_z w64 (of_z w64 c.signed.result) ≡ pos c.args.bits = to_z-of_z w64 c.signed.result f0 ∙ c.signed.ensures in
    let h1 = simp e at c.blog64.ensures.value in
    let h2 = simp to_z-of_z at c.bexp64.ensures.value in
    let t = to_z-of_z w64 c.bexp64.result f2 in
    let b = simp to_z-of_z at c.bexp64.ensures.band in
    let x = simp to_z-of_z at c.bexp64.ensures.exact in
    record {
      value = t ∙ sym (counted_is c.bexp64.result c.bexp64.ensures.near f2) ∙ ap (λ (z : ℤ). pos (counted z)) (h2 ∙ ap bexp64 h1);
      near = subst (NearSeen c.args.bits) (sym t) (near_seen c.args.bits _ c.blog64.result c.bexp64.result (search rules) e c.blog64.ensures.band b x);
    }
