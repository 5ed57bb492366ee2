-- Both ways of the hard limit.
use Rattle.std.proofs.Common.{◌∙◌, arith, w64, SFits, rules}
use Rattle.std.proofs.lemmas.Int.{ints, to_z-of_z}
use Rattle.model.proofs.Trimming.{hard_still, hard_moved}
use Rattle.model.proofs.trim.Scaled.hard_trim.Goals as goal

pub returns-then-saturating_sub-log_hard : goal.returns-then-saturating_sub-log_hard
returns-then-saturating_sub-log_hard c =
    let f1 : SFits w64 c.blog64-log_hard.result = search rules in
    let f2 : SFits w64 c.powered.result = search rules in
    let f3 : SFits w64 c.saturating_sub.result = search rules in
    let f4 : SFits w64 c.args.log_q = c.ranges.log_q in
    let f5 : SFits w64 c.args.self.pixels = search rules in
    let f6 : SFits w64 c.args.hard = c.ranges.hard in
    let h1 = simp to_z-of_z at c.powered.ensures in
    let h2 = simp to_z-of_z at c.saturating_sub.ensures in
    let h3 = simp to_z-of_z at c.blog64-log_hard.ensures.value in
    to_z-of_z w64 c.args.log_q c.ranges.log_q
    ∙ hard_still c.args.self.exp.value c.args.self.pixels c.args.log_q c.args.hard c.powered.result c.saturating_sub.result c.blog64-log_hard.result h1 h2 h3 (omega (arith, ints))

pub returns : goal.returns
returns c =
    let f1 : SFits w64 c.blog64-log_hard.result = search rules in
    let f2 : SFits w64 c.powered.result = search rules in
    let f3 : SFits w64 c.saturating_sub.result = search rules in
    let f4 : SFits w64 c.args.log_q = c.ranges.log_q in
    let f5 : SFits w64 c.args.self.pixels = search rules in
    let f6 : SFits w64 c.args.hard = c.ranges.hard in
    let f7 : SFits w64 c.saturating_sub-2.result = search rules in
    let f8 : SFits w64 c.unpowered.result = search rules in
    let h1 = simp to_z-of_z at c.powered.ensures in
    let h2 = simp to_z-of_z at c.saturating_sub.ensures in
    let h3 = simp to_z-of_z at c.blog64-log_hard.ensures.value in
    let h4 = simp to_z-of_z at c.saturating_sub-2.ensures in
    let h5 = simp to_z-of_z at c.unpowered.ensures in
    to_z-of_z w64 c.unpowered.result f8
    ∙ hard_moved c.args.self.exp.value c.args.self.pixels c.args.log_q c.args.hard c.powered.result c.saturating_sub.result c.blog64-log_hard.result c.saturating_sub-2.result c.unpowered.result h1 h2 h3 (omega (arith, ints)) h4 h5
