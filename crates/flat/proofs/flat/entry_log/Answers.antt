use Rattle.std.proofs.Common.{◌≡◌, ℤ, sym, subst, arith, w64, SFits, rules}
use Rattle.std.proofs.lemmas.Int.{ints, to_z-of_z}
use Rattle.logexp.specs.Held.{◌⊖◌}
use Rattle.tables.specs.Depths.{depth_log}
use Rattle.flat.specs.Flat.{Near}
use Rattle.flat.proofs.Nearness.{entry_near}
use Rattle.flat.proofs.flat.entry_log.Goals as goal

pub returns-clause-near : goal.returns-clause-near
returns-clause-near c h =
    let f : SFits w64 c.blog64.result = search rules in
    let e : c.scaled.result ≡ c.blog64.result ⊖ depth_log c.args.depth = simp to_z-of_z at c.scaled.ensures in
    let g : SFits w64 c.scaled.result = search rules in
    let back = to_z-of_z w64 c.scaled.result g in
    subst (λ (z : ℤ). Near 8 z) (sym back) (subst (λ (z : ℤ). Near 8 z) (sym e)
    (entry_near c.args.depth c.args.entry _ c.blog64.result (omega (arith, ints)) c.blog64.ensures.value c.blog64.ensures.none c.blog64.ensures.positive c.blog64.ensures.most h))
