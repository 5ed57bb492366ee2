use Rattle.std.proofs.Common.{vec_items, rules}
use Rattle.std.proofs.lemmas.Result.{err_from_is_err_and}
use Rattle.words.specs.Lines.{lines_in}
use Rattle.queries.proofs.Asking.{wrong_in, all_in}
use Rattle.queries.proofs.lines.queries.Goals as goal

pub returns-in_err-all-clause-refused : goal.returns-in_err-all-clause-refused
returns-in_err-all-clause-refused c =
    let p = err_from_is_err_and c.from_residual.result c.from_residual.ensures.1 in
    rw (p.1, p.2) (wrong_in c.args.bytes.now (vec_items c.new.result) _ _ c.new.ensures.items c.in_err-all.ensures.refused)

pub returns-clause-accepted : goal.returns-clause-accepted
returns-clause-accepted c =
    let all = all_in (lines_in c.args.bytes.now) (vec_items c.new.result) (vec_items c.in_ok-all.all.queries) c.new.ensures.items c.in_ok-all.ensures.accepted.1 in
    search (rules, c.in_ok-all.ensures.accepted.0, all)
