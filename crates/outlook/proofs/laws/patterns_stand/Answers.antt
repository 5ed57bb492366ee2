use Rattle.outlook.specs.Cycles.{repeated_stands}
use Rattle.outlook.proofs.laws.patterns_stand.Goals as goal

pub returns : goal.returns
returns c = repeated_stands
