use Rattle.std.proofs.Common.{refl}
use Rattle.logexp.specs.LogExp.{computing}
use Rattle.logexp.proofs.laws.figures.Goals as goal

pub returns : goal.returns
unfolding computing
returns c = record { count = refl; hold = refl }
