-- The code's table is the definition's.
use Rattle.std.proofs.Common.{refl, rules}
use Rattle.bessel.specs.Tangent.{tan, tans}
use Rattle.bessel.proofs.Tangents.{tan_small}
use Rattle.bessel.proofs.tangent.rough_tan.Goals as goal

pub returns : goal.returns
unfolding tan tans
returns c = record { value = refl; small = tan_small c.args.i (search rules) }
