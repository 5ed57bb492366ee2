-- The table rises, so the difference is not negative.
use Rattle.std.proofs.Common.{arith, rules}
use Rattle.bessel.proofs.Tangents.{tan_rises}
use Rattle.bessel.proofs.tangent.slope.Goals as goal

pub overflow_sub-result : goal.overflow_sub-result
overflow_sub-result c = omega (arith, tan_rises c.args.i (search rules))
