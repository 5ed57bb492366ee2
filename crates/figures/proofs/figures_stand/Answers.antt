use Rattle.figures.proofs.Twelve.{figures}
use Rattle.figures.proofs.figures_stand.Goals as goal

pub returns-clause-hold : goal.returns-clause-hold
returns-clause-hold g c = figures _ _
