use Rattle.flat.proofs.Ordering.{logs_ordered}
use Rattle.flat.proofs.flat.logs_stand.Goals as goal

pub returns : goal.returns
returns c = logs_ordered
