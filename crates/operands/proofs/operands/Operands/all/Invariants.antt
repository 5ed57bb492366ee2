use Rattle.std.proofs.Common.{◌≡◌, drop, vec_items}
use Rattle.operands.specs.Line.{words_of, values}
use Rattle.operands.proofs.Gathered.{prefixed}
use Rattle.operands.proofs.operands.Operands.all.Given as goal

abbrev pub invariant-loop-place : goal.invariant-loop-place
invariant-loop-place g l = prefixed (vec_items l.all) (values g.T.FromWord.written (drop l.place (words_of l.fn.self))) ≡ values g.T.FromWord.written (drop 1 (words_of l.fn.self))
