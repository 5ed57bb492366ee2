-- The three ways of the soft limit; a number that is passed on goes to its bits and back.
use Rattle.std.proofs.Common.{◌∙◌, arith, w64, SFits, rules}
use Rattle.std.proofs.lemmas.Int.{ints, to_z-of_z}
use Rattle.model.proofs.Trimming.{soft_none, soft_still, soft_moved}
use Rattle.model.proofs.trim.Scaled.soft_trim.Goals as goal

pub returns-then-soft-le0 : goal.returns-then-soft-le0
returns-then-soft-le0 c =
    to_z-of_z w64 c.args.log_q c.ranges.log_q
    ∙ soft_none c.args.self.exp.value c.args.self.pixels c.args.log_q c.args.soft c.args.margin.bits (omega (arith, ints))

pub returns-then-saturating_sub-log_soft : goal.returns-then-saturating_sub-log_soft
returns-then-saturating_sub-log_soft c =
    let f1 : SFits w64 c.blog64-log_soft.result = search rules in
    let f2 : SFits w64 c.powered-power.result = search rules in
    let f3 : SFits w64 c.saturating_sub.result = search rules in
    let f4 : SFits w64 c.args.log_q = c.ranges.log_q in
    let f5 : SFits w64 c.args.self.pixels = search rules in
    let f6 : SFits w64 c.args.soft = c.ranges.soft in
    let h1 = simp to_z-of_z at c.powered-power.ensures in
    let h2 = simp to_z-of_z at c.saturating_sub.ensures in
    let h3 = simp to_z-of_z at c.blog64-log_soft.ensures.value in
    to_z-of_z w64 c.args.log_q c.ranges.log_q
    ∙ soft_still c.args.self.exp.value c.args.self.pixels c.args.log_q c.args.soft c.args.margin.bits c.powered-power.result c.saturating_sub.result c.blog64-log_soft.result (omega (arith, ints)) h1 h2 h3 (omega (arith, ints))

pub returns : goal.returns
returns c =
    let f1 : SFits w64 c.blog64-log_soft.result = search rules in
    let f2 : SFits w64 c.powered-power.result = search rules in
    let f3 : SFits w64 c.saturating_sub.result = search rules in
    let f4 : SFits w64 c.args.log_q = c.ranges.log_q in
    let f5 : SFits w64 c.args.self.pixels = search rules in
    let f6 : SFits w64 c.args.soft = c.ranges.soft in
    let f8 : SFits w64 c.share.result = search rules in
    let f9 : SFits w64 c.eased.result = search rules in
    let f10 : SFits w64 c.unpowered.result = search rules in
    let h1 = simp to_z-of_z at c.powered-power.ensures in
    let h2 = simp to_z-of_z at c.saturating_sub.ensures in
    let h3 = simp to_z-of_z at c.blog64-log_soft.ensures.value in
    let h4 = simp to_z-of_z at c.share.ensures in
    let h5 = simp to_z-of_z at c.eased.ensures in
    let h6 = simp to_z-of_z at c.unpowered.ensures in
    to_z-of_z w64 c.unpowered.result f10
    ∙ soft_moved c.args.self.exp.value c.args.self.pixels c.args.log_q c.args.soft c.args.margin.bits c.powered-power.result c.saturating_sub.result c.blog64-log_soft.result c.share.result c.eased.result c.unpowered.result (omega (arith, ints)) h1 h2 h3 (omega (arith, ints)) h4 h5 h6
