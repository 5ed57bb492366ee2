-- The scale from its steps.
use Rattle.std.proofs.Common.{◌≡◌, pos, arith, w64, SFits, to_z, rules}
use Rattle.std.proofs.lemmas.Int.{ints, to_z-of_z}
use Rattle.model.proofs.Filters.{scale_by}
use Rattle.model.proofs.filter.scale_of.Goals as goal

pub returns : goal.returns
returns c =
    let f1 : SFits w64 c.blog64.result = search rules in
    let f2 : SFits w64 c.saturating_sub.result = search rules in
    let f3 : SFits w64 c.saturating_add.result = search rules in
    let f4 : SFits w64 c.min.result = search rules in
    let f5 : SFits w64 c.args.power = c.ranges.power in
    let f6 : SFits w64 c.args.log_npixels = c.ranges.log_npixels in
    let e : to_z w64 c.args.bits ≡ pos c.args.bits = omega (arith, ints) in
    let h1 = simp e at c.blog64.ensures.value in
    let h2 = simp to_z-of_z at c.saturating_sub.ensures in
    let h3 = simp to_z-of_z at c.saturating_add.ensures in
    let h4 = simp to_z-of_z at c.min.ensures.value in
    scale_by c.args.log_npixels c.args.power c.blog64.result c.saturating_sub.result c.saturating_add.result c.min.result c.args.bits f4 h1 h2 h3 h4
