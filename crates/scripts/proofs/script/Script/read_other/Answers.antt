use Rattle.std.proofs.Common.{Some, sym, ap, ◌∙◌}
use Rattle.std.proofs.lemmas.Result.{err_from_is_err_and}
use Rattle.operands.specs.Line.{words_of}
use Rattle.scripts.specs.Read.{read_of}
use Rattle.scripts.proofs.Adding.{other_bad, other_good}
use Rattle.scripts.proofs.script.Script.read_other.Goals as goal

pub returns-in_err-line_of : goal.returns-in_err-line_of
returns-in_err-line_of c =
    let p = err_from_is_err_and c.from_residual.result c.from_residual.ensures.1 in
    rw (p.1, p.2) (other_bad (words_of c.args.words) (read_of c.args.self.now) c.in_err-line_of.ensures)

pub returns : goal.returns
returns c =
    other_good (words_of c.args.words) (read_of c.args.self.now) c.in_ok-line_of.field-0 c.in_ok-line_of.ensures ∙ ap Some (sym c.in_ok-push_line.ensures)
