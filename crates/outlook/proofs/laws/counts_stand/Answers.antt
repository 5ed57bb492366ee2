use Rattle.outlook.proofs.Standing.{front_stands, tally_stands}
use Rattle.outlook.proofs.laws.counts_stand.Goals as goal

pub returns : goal.returns
returns c = λ u xs. (front_stands u xs, tally_stands xs)
