use Rattle.std.proofs.Common.{Some, vec_items, sym, ap, ◌∙◌}
use Rattle.std.proofs.lemmas.Result.{err_from_is_err_and}
use Rattle.operands.specs.Line.{words_of}
use Rattle.scripts.specs.declared.line.Line.TheVariants as line
use Rattle.scripts.specs.Read.{read_of}
use Rattle.scripts.proofs.Adding.{stopped, added, list_bad, list_good}
use Rattle.scripts.proofs.script.Script.read_list.Goals as goal

pub returns-in_err-bytes : goal.returns-in_err-bytes
returns-in_err-bytes c =
    let p = err_from_is_err_and c.from_residual.result c.from_residual.ensures.1 in
    rw (p.1, p.2) (stopped _ _ _ (list_bad (words_of c.args.words) (read_of c.args.self.now)) c.in_err-bytes.ensures)

pub returns : goal.returns
returns c =
    let s = c.args.self.now in
    let bytes = c.in_ok-bytes.ensures ∙ ap Some (sym c.as_slice.ensures.value) in
    list_good (words_of c.args.words) (read_of s) c.as_slice.result.now c.new.result c.map.result c.in_ok-list.list bytes c.new.ensures c.map.ensures.cases c.in_ok-list.ensures
    ∙ ap Some (sym (c.in_ok-push_line.ensures ∙ added (λ p. line.List p) (vec_items s.lines) (vec_items s.stairs) (vec_items s.outlooks) (vec_items c.keep.new.items) c.in_ok-list.list c.in_ok-place.place c.in_ok-place.ensures.place c.in_ok-place.ensures.kept))
