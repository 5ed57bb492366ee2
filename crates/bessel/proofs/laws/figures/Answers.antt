-- The figures by computing.
use Rattle.std.proofs.Common.{refl}
use Rattle.bessel.specs.Figures.{computing}
use Rattle.bessel.proofs.laws.figures.Goals as goal

pub returns : goal.returns
unfolding computing
returns c = record { count = refl; hold = (refl, refl) }
