use Rattle.tables.proofs.Choosing.{one_index}
use Rattle.tables.proofs.laws.choice_stands.Goals as goal

pub returns : goal.returns
returns c = one_index
