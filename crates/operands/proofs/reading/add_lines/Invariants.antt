use Rattle.std.proofs.Common.{◌≡◌, take, Some}
use Rattle.words.specs.Words.{texts}
use Rattle.operands.specs.Reading.{all_add}
use Rattle.operands.proofs.reading.add_lines.Given as goal

abbrev pub invariant-loop-i : goal.invariant-loop-i
invariant-loop-i g l = all_add g.R.Reader.adds (take l.i (texts l.lines)) (g.R.Reader.held l.fn.all) ≡ Some (g.R.Reader.held l.all)
