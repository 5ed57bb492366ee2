use Rattle.std.proofs.Common.{true, false}
use Rattle.std.proofs.lemmas.Result.{err_from_is_err_and}
use Rattle.words.specs.Lines.{lines_in}
use Rattle.operands.proofs.Lines.{told_before}
use Rattle.operands.proofs.reading.read_text.Goals as goal

pub returns-in_err-add_text-in-Ok-clause-refused : goal.returns-in_err-add_text-in-Ok-clause-refused
returns-in_err-add_text-in-Ok-clause-refused g c =
    let p = err_from_is_err_and c.from_residual.result c.from_residual.ensures.1 in
    rw (p.1, p.2) (c.in-Ok.text.now, true, c.in-Ok.ensures, c.in_err-add_text-in-Ok.ensures)

pub returns-in_err-add_text-in-Err-clause-refused : goal.returns-in_err-add_text-in-Err-clause-refused
returns-in_err-add_text-in-Err-clause-refused g c =
    let p = err_from_is_err_and c.from_residual-in_err-add_text-in-Err.result c.from_residual-in_err-add_text-in-Err.ensures.1 in
    rw (p.1, p.2) (c.in-Err.cut.before.now, false, c.in-Err.ensures, told_before g.R.Reader.adds (lines_in c.in-Err.cut.before.now) (g.R.Reader.held c.args.first) false _ _ c.in_err-add_text-in-Err.ensures)
