-- By the bounds of each product.
use Rattle.bessel.proofs.Sums.{never_held}
use Rattle.bessel.proofs.laws.sums_stand.Goals as goal

pub returns : goal.returns
returns c = never_held
