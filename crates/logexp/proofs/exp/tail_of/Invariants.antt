use Rattle.std.proofs.Common.{◌≡◌}
use Rattle.logexp.specs.LogExp.{tail_turns}
use Rattle.logexp.proofs.exp.tail_of.Given as goal

abbrev pub invariant-loop-k : goal.invariant-loop-k
invariant-loop-k l = l.t ≡ tail_turns l.e l.k
