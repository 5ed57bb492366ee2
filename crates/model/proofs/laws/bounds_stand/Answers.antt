-- By induction over the lessons.
use Rattle.model.proofs.Bounds.{bounds_kept}
use Rattle.model.proofs.laws.bounds_stand.Goals as goal

pub returns : goal.returns
returns c = bounds_kept
