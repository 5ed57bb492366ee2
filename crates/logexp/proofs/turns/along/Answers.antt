use Rattle.std.proofs.Common.{arith, rules}
use Rattle.std.proofs.lemmas.Int.{ints}
use Rattle.logexp.proofs.ExpTurns.{along_neg, along_pos}
use Rattle.logexp.proofs.turns.along.Goals as goal

pub returns-then-s-lt0 : goal.returns-then-s-lt0
returns-then-s-lt0 c = omega (arith, ints, along_neg c.args.s c.args.a (search rules))

pub returns-else-s-lt0 : goal.returns-else-s-lt0
returns-else-s-lt0 c = omega (arith, ints, along_pos c.args.s c.args.a (search rules))
