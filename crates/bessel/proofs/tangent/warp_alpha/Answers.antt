-- The line's part is within one step where alpha is at most a quarter.
use Rattle.std.proofs.Common.{arith}
use Rattle.bessel.specs.Tangent.{warped}
use Rattle.bessel.proofs.tangent.warp_alpha.Goals as goal

pub returns : goal.returns
unfolding warped
returns c = record { value = cc; near = λ h. c.between.ensures.near (omega arith) }
