use Rattle.std.proofs.Common.{◌-◌, arith, rules}
use Rattle.std.proofs.lemmas.Int.{ints}
use Rattle.logexp.proofs.ExpEnds.{rounded_off, rounded_as, round_least, rounded_by, shr_bits, shr_least}
use Rattle.logexp.proofs.exp.rounded.Goals as goal

pub half_up-requires : goal.half_up-requires
half_up-requires c =
    let e = shr_bits c.args.w c.shr.result (61 - c.args.ipart) (search rules) c.shr.ensures in
    omega (arith, ints, shr_least c.args.w (61 - c.args.ipart) c.requires)

pub returns-then-ipart-lt62 : goal.returns-then-ipart-lt62
returns-then-ipart-lt62 c =
    let e = rounded_by c.args.w c.shr.result c.half_up.result c.args.ipart (search rules) (search rules) c.shr.ensures c.half_up.ensures in
    record {
      value = omega (arith, ints, e, rounded_off c.args.w c.args.ipart c.if-ipart-lt62.true);
      near = omega (arith, ints, e, round_least c.args.w c.args.ipart c.requires);
    }

pub returns-else-ipart-lt62 : goal.returns-else-ipart-lt62
returns-else-ipart-lt62 c = record { value = omega (arith, ints, rounded_as c.args.w c.args.ipart (search rules)); near = omega (arith, ints) }
