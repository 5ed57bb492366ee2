use Rattle.std.proofs.Common.{rules}
use Rattle.aim.specs.Bounds.{over}
use Rattle.aim.proofs.bounds.Aim.over_lowest.Goals as goal

pub returns-then-lowest-eq0 : goal.returns-then-lowest-eq0
unfolding over
returns-then-lowest-eq0 c = search rules

pub returns : goal.returns
unfolding over
returns c = search rules
