-- Both ways of the mark.
use Rattle.std.proofs.Common.{rules}
use Rattle.model.specs.Trims.{hard_unless}
use Rattle.model.proofs.trim.Scaled.hard_unless.Goals as goal

pub returns-then-highest : goal.returns-then-highest
unfolding hard_unless
returns-then-highest c = search rules

pub returns-else-highest : goal.returns-else-highest
unfolding hard_unless
returns-else-highest c = search rules
