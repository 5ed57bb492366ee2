use Rattle.std.proofs.Common.{◌≡◌}
use Rattle.logexp.specs.LogExp.{exp_turns}
use Rattle.logexp.proofs.exp.exp_turns.Given as goal

abbrev pub invariant-loop-k : goal.invariant-loop-k
invariant-loop-k l = l.e ≡ exp_turns l.z l.k
