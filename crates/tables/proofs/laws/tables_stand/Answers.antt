use Rattle.tables.proofs.Rising.{never_falls}
use Rattle.tables.proofs.laws.tables_stand.Goals as goal

pub returns : goal.returns
returns c = never_falls
