-- The soft limit, then the hard limit, each from its steps.
use Rattle.std.proofs.Common.{◌∙◌, w64, SFits, rules}
use Rattle.std.proofs.lemmas.Int.{to_z-of_z}
use Rattle.model.proofs.Trimming.{trim_by}
use Rattle.model.proofs.filter.Filter.trim.Goals as goal

pub returns : goal.returns
returns c =
    let f1 : SFits w64 c.scaled_pixels.result = search rules in
    let f2 : SFits w64 c.soft.result = search rules in
    let f3 : SFits w64 c.soft_trim-softened.result = search rules in
    let f4 : SFits w64 c.hard.result = search rules in
    let f5 : SFits w64 c.hard_unless.result = search rules in
    let f6 : SFits w64 c.args.log_q = c.ranges.log_q in
    let f7 : SFits w64 c.args.log_npixels = c.ranges.log_npixels in
    let f8 : SFits w64 c.args.room.limit = search rules in
    let h2 = simp to_z-of_z at c.scaled_pixels.ensures in
    let h3 = simp to_z-of_z at c.of-margin.ensures in
    let h5 = simp to_z-of_z at c.soft_trim-softened.ensures in
    let h7 = simp to_z-of_z at c.hard_unless.ensures in
    to_z-of_z w64 c.hard_unless.result f5
    ∙ trim_by c.args.self.now c.args.log_npixels c.args.log_q c.args.room c.scaled_pixels.result c.of-margin.result.bits c.soft.result c.soft_trim-softened.result c.hard.result c.hard_unless.result c.exponent.result.value c.exponent.ensures h2 h3 c.soft.ensures h5 c.hard.ensures h7
