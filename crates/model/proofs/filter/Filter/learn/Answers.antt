-- Both ways of a lesson.
use Rattle.std.proofs.Common.{◌≡◌, true, false, ◌||◌, eqb, arith, w32, w64, SFits, rules}
use Rattle.std.proofs.lemmas.Int.{to_z-of_z}
use Rattle.std.proofs.lemmas.Bool.Decides.{nat_tests}
use Rattle.model.proofs.Filters.{next_begun, next_followed}
use Rattle.model.proofs.filter.Filter.learn.Goals as goal

pub returns-then-lesson-eq0 : goal.returns-then-lesson-eq0
returns-then-lesson-eq0 c =
    let f1 : SFits w64 c.power.result = search rules in
    let f2 : SFits w64 c.scale_of-scale.result = search rules in
    let f5 : SFits w64 c.args.lesson.log_q = search rules in
    let f6 : SFits w64 c.args.log_npixels = c.ranges.log_npixels in
    let h1 = simp to_z-of_z at c.power.ensures in
    let h2 = simp to_z-of_z at c.scale_of-scale.ensures in
    let h3 = simp to_z-of_z at c.begin.ensures in
    let b : (c.args.lesson.trial || eqb c.args.lesson.reports 0) ≡ true = grind (arith, nat_tests) in
    next_begun c.args.self.now c.begin.new.self c.args.log_npixels c.power.result c.scale_of-scale.result c.args.target c.args.lesson b h1 h2 h3

pub returns-else-lesson-eq0 : goal.returns-else-lesson-eq0
returns-else-lesson-eq0 c =
    let f1 : SFits w64 c.power.result = search rules in
    let f2 : SFits w64 c.scale_of-scale.result = search rules in
    let f3 : SFits w32 c.q57_to_q24.result = search rules in
    let f5 : SFits w64 c.args.lesson.log_q = search rules in
    let f6 : SFits w64 c.args.log_npixels = c.ranges.log_npixels in
    let h1 = simp to_z-of_z at c.power.ensures in
    let h2 = simp to_z-of_z at c.scale_of-scale.ensures in
    let h3 = simp to_z-of_z at c.q57_to_q24.ensures in
    let h5 = simp to_z-of_z at c.follow.ensures in
    let b : (c.args.lesson.trial || eqb c.args.lesson.reports 0) ≡ false = grind (arith, nat_tests) in
    next_followed c.args.self.now c.lengthen.new.self c.follow.new.self c.args.log_npixels c.power.result c.scale_of-scale.result c.q57_to_q24.result c.args.target c.args.lesson b h1 h2 h3 c.lengthen.ensures h5
