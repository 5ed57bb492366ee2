use Rattle.std.proofs.Common.{◌≡◌, ℕ, ◌<◌, ◌≤◌, List, length, Some, sym, ap, ◌∙◌, subst, rules, arith}
use Rattle.std.proofs.lemmas.List.{take_all}
use Rattle.words.specs.Words.{texts}
use Rattle.words.proofs.Reading.{length_texts, texts_at}
use Rattle.operands.specs.Faults.{Told}
use Rattle.operands.specs.Reading.{line_adds, all_add}
use Rattle.operands.proofs.Lines.{all_none, all_more, told_first}
use Rattle.operands.proofs.reading.add_lines.Goals as goal

pub loop-i-init : goal.loop-i-init
loop-i-init g c = all_none g.R.Reader.adds (texts c.args.lines.now) (g.R.Reader.held c.args.all.now)

pub returns-in-Err : goal.returns-in-Err
returns-in-Err g c =
    let l : c.loop-i.i < length (texts c.args.lines.now) = search (rules, length_texts c.args.lines.now) in
    told_first g.R.Reader.adds (texts c.args.lines.now) c.loop-i.i _ (g.R.Reader.held c.args.all.now) (g.R.Reader.held c.loop-i.all) c.in-Err.fault (omega arith) l c.loop-i.invariant
    (subst (λ (t : List ℕ). Told (line_adds g.R.Reader.adds t (g.R.Reader.held c.loop-i.all)) c.in-Err.fault) (sym (texts_at c.args.lines.now c.loop-i.i _ c.loop-i-test.true)) c.in-Err.ensures)

pub loop-i-preserved : goal.loop-i-preserved
loop-i-preserved g c =
    let l : c.loop-i.i < length (texts c.args.lines.now) = search (rules, length_texts c.args.lines.now) in
    all_more g.R.Reader.adds (texts c.args.lines.now) c.loop-i.i (g.R.Reader.held c.args.all.now) (g.R.Reader.held c.loop-i.all) (g.R.Reader.held c.add_line.new.all) l c.loop-i.invariant
    (subst (λ (t : List ℕ). line_adds g.R.Reader.adds t (g.R.Reader.held c.loop-i.all) ≡ Some (g.R.Reader.held c.add_line.new.all)) (sym (texts_at c.args.lines.now c.loop-i.i _ c.loop-i-test.true)) c.in_default.ensures)

pub returns : goal.returns
returns g c =
    let l : length (texts c.args.lines.now) ≤ c.loop-i.i = search (rules, length_texts c.args.lines.now) in
    ap (λ (ls : List (List ℕ)). all_add g.R.Reader.adds ls (g.R.Reader.held c.args.all.now)) (sym (take_all c.loop-i.i (texts c.args.lines.now) l)) ∙ c.loop-i.invariant
