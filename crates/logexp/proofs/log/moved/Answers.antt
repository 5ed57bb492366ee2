use Rattle.std.proofs.Common.{rules}
use Rattle.logexp.proofs.LogTurns.{moved_high, moved_low}
use Rattle.logexp.proofs.log.moved.Goals as goal

pub returns-then-ipart-gt61 : goal.returns-then-ipart-gt61
returns-then-ipart-gt61 c =
    let h = moved_high c.args.ipart c.args.n (search rules) (search rules) c.requires.1.0 c.requires.1.1 in record { value = h.0; least = h.1; most = h.2 }

pub returns-else-ipart-gt61 : goal.returns-else-ipart-gt61
returns-else-ipart-gt61 c =
    let h = moved_low c.args.ipart c.args.n (search rules) c.requires.1.0 c.requires.1.1 in record { value = h.0; least = h.1; most = h.2 }
