use Rattle.std.proofs.Common.{rules}
use Rattle.std.proofs.ByRecursion.{All-get_or}
use Rattle.outlook.specs.Bytes.{Lawful}
use Rattle.outlook.specs.EntriesLemmas.{lawful_all}
use Rattle.outlook.proofs.making.entries_of.Goals as goal

pub invariant_of-push_reserved : goal.invariant_of-push_reserved
invariant_of-push_reserved c = record { lawful = All-get_or Lawful c.args.bytes.now c.loop-byte.byte-index 0 c.loop-byte-test.true (lawful_all c.args.bytes.now (search rules)) }
