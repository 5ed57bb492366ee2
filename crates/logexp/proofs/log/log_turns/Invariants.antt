use Rattle.std.proofs.Common.{◌≡◌}
use Rattle.logexp.specs.LogExp.{log_turns}
use Rattle.logexp.proofs.log.log_turns.Given as goal

abbrev pub invariant-loop-k : goal.invariant-loop-k
invariant-loop-k l = l.l ≡ log_turns l.w l.k
