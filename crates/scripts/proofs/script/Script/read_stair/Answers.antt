use Rattle.std.proofs.Common.{map, length, drop, Some, Result, vec_items, sym, ap, ◌∙◌, arith}
use Rattle.std.proofs.lemmas.List.{length-drop}
use Rattle.std.proofs.lemmas.Result.{err_from_is_err_and}
use Rattle.std.proofs.lemmas.Bool.{eqb-true}
use Rattle.words.specs.Words.{unsigned}
use Rattle.operands.specs.Line.{words_of}
use Rattle.operands.proofs.Gathered.{length_values}
use Rattle.stair.specs.Stairs.{stair_made}
use Rattle.stair.specs.declared.refusal.Refusal as stair
use Rattle.stair.specs.declared.stair.Stair.{Stair}
use Rattle.outlook.specs.Either.{entries_known}
use Rattle.scripts.specs.Read.{read_of, with_stair}
use Rattle.scripts.proofs.Adding.{stopped, added_stair, stair_short, stair_bad, stair_good}
use Rattle.scripts.proofs.script.Script.read_stair.Goals as goal

pub returns-in_err-takes : goal.returns-in_err-takes
returns-in_err-takes c =
    let p = err_from_is_err_and c.from_residual.result c.from_residual.ensures.1 in
    rw (p.1, p.2) (stair_short (words_of c.args.words) (read_of c.args.self.now) (sym c.in_err-takes.ensures.accepted))

pub returns-in_err-counts : goal.returns-in_err-counts
returns-in_err-counts c =
    let p = err_from_is_err_and c.from_residual-in_err-counts.result c.from_residual-in_err-counts.ensures.1 in
    rw (p.1, p.2) (stopped _ _ _ (stair_bad (words_of c.args.words) (read_of c.args.self.now) (sym c.in_ok-takes.ensures.accepted)) c.in_err-counts.ensures)

pub rows_of-requires : goal.rows_of-requires
rows_of-requires c =
    let n = length_values (unsigned 32) (drop 1 (words_of c.args.words)) (vec_items c.in_ok-counts.counts) c.in_ok-counts.ensures in
    let e = eqb-true (length (words_of c.args.words)) 257 (sym c.in_ok-takes.ensures.accepted) in
    ap length c.as_slice.ensures.value ∙ n ∙ length-drop 1 (words_of c.args.words) ∙ omega (arith, e)

pub returns : goal.returns
returns c =
    let h = c.in_ok-counts.ensures ∙ ap Some (sym c.as_slice.ensures.value) in
    let m = c.new.ensures.made ∙ ap stair_made c.rows_of.ensures in
    let s = c.args.self.now in
    let kept = added_stair (vec_items s.lines) (map entries_known (vec_items s.outlooks)) (vec_items s.stairs) (vec_items c.keep.new.items) c.new.result c.in_ok-place.place c.in_ok-place.ensures.place c.in_ok-place.ensures.kept in
    stair_good (words_of c.args.words) (read_of s) c.as_slice.result.now (sym c.in_ok-takes.ensures.accepted) h
    ∙ ap Some (sym (c.in_ok-push_line.ensures ∙ kept ∙ ap (λ (made : Result Stair stair.Refusal). with_stair made (read_of s)) m))
