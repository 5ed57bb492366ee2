use Rattle.std.proofs.Common.{sym, arith, w64, SFits, rules}
use Rattle.std.proofs.lemmas.Int.{ints}
use Rattle.logexp.proofs.ExpEnds.{scaled_zero, scaled_by, closed_least}
use Rattle.logexp.proofs.exp.scaled.Goals as goal

pub returns-then-z-eq0 : goal.returns-then-z-eq0
returns-then-z-eq0 c = record { value = sym (scaled_zero c.args.ipart c.args.z (search rules)); near = omega (arith, ints) }

pub returns : goal.returns
returns c =
    let fw : SFits w64 c.exp_turns-e.result.w = search rules in
    let e = scaled_by c.args.ipart c.args.z c.exp_turns-e.result c.tail_of-lo.result c.saturating_mul.result c.saturating_add.result c.ranges.z c.requires.0 c.requires.1 c.if-z-eq0.false c.exp_turns-e.ensures.value fw (search rules) (search rules) c.tail_of-lo.ensures.value c.saturating_mul.ensures c.saturating_add.ensures in
    let l = closed_least c.exp_turns-e.result.w c.tail_of-lo.result fw c.exp_turns-e.ensures.near.w_least c.tail_of-lo.ensures.near in
    record { value = omega (arith, ints, e.0); near = omega (arith, ints, e.1) }
