-- The count from its steps.
use Rattle.std.proofs.Common.{w64, SFits, rules}
use Rattle.std.proofs.lemmas.Int.{to_z-of_z}
use Rattle.model.proofs.Filters.{count_by}
use Rattle.model.proofs.filter.Filter.predict.Goals as goal

pub returns : goal.returns
returns c =
    let f1 : SFits w64 c.power.result = search rules in
    let f2 : SFits w64 c.saturating_add.result = search rules in
    let f3 : SFits w64 c.saturating_sub.result = search rules in
    let f4 : SFits w64 c.bexp64.result = search rules in
    let f5 : SFits w64 c.args.log_q = c.ranges.log_q in
    let f6 : SFits w64 c.args.log_npixels = c.ranges.log_npixels in
    let f7 : SFits w64 c.args.self.now.log_scale = search rules in
    let h1 = simp to_z-of_z at c.power.ensures in
    let h2 = simp to_z-of_z at c.saturating_add.ensures in
    let h3 = simp to_z-of_z at c.saturating_sub.ensures in
    let h4 = simp to_z-of_z at c.bexp64.ensures.value in
    count_by c.args.self.now c.args.log_npixels c.args.log_q c.power.result c.saturating_add.result c.saturating_sub.result c.bexp64.result f4 c.bexp64.ensures.near h1 h2 h3 h4
