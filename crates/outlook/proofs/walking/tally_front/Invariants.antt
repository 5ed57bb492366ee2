use Rattle.outlook.specs.Packing.{packed_bytes}
use Rattle.outlook.proofs.Walks.{Walked}
use Rattle.outlook.proofs.walking.tally_front.Given as goal

abbrev pub invariant-loop-entry : goal.invariant-loop-entry
invariant-loop-entry l = Walked (packed_bytes l.entries) l.units l.entry-index l.all
