use Rattle.std.proofs.Common.{◌+◌, ◌<◌, ◌≤◌, List, length, drop, vec_items, ap, ◌∙◌, arith}
use Rattle.std.proofs.lemmas.Result.{err_from_is_err_and}
use Rattle.operands.specs.Line.{words_of, values}
use Rattle.operands.proofs.Gathered.{prefixed, gathered_more, gathered_bad, gathered_all}
use Rattle.operands.proofs.operands.Operands.all.Goals as goal

pub returns-in_err-at : goal.returns-in_err-at
returns-in_err-at g c =
    let ws = words_of c.args.self in
    let l : c.loop-place.place < length ws = omega (arith, c.count-place-end.ensures, c.loop-place-test.true) in
    let bad = gathered_bad g.T.FromWord.written ws c.loop-place.place (vec_items c.loop-place.all) (values g.T.FromWord.written (drop 1 ws)) l c.in_err-at.ensures.read c.loop-place.invariant in
    let p = err_from_is_err_and c.from_residual.result c.from_residual.ensures.1 in
    rw (p.1, p.2) bad

pub loop-place-preserved : goal.loop-place-preserved
loop-place-preserved g c =
    let ws = words_of c.args.self in
    let l : c.loop-place.place < length ws = omega (arith, c.count-place-end.ensures, c.loop-place-test.true) in
    ap (λ (ns : List _). prefixed ns (values g.T.FromWord.written (drop (c.loop-place.place + 1) ws))) c.in_ok-push.ensures.items
    ∙ gathered_more g.T.FromWord.written ws c.loop-place.place c.in_ok-at.field-0 (vec_items c.loop-place.all) (values g.T.FromWord.written (drop 1 ws)) l c.in_ok-at.ensures.read c.loop-place.invariant

pub returns : goal.returns
returns g c =
    let ws = words_of c.args.self in
    let l : length ws ≤ c.loop-place.place = omega (arith, c.count-place-end.ensures, c.loop-place-test.false) in
    gathered_all g.T.FromWord.written ws c.loop-place.place (vec_items c.loop-place.all) (values g.T.FromWord.written (drop 1 ws)) l c.loop-place.invariant
