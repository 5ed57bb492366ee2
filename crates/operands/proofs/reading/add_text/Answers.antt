use Rattle.std.proofs.Common.{◌≡◌, ℕ, List, length, vec_items, sym, ap, ◌∙◌}
use Rattle.words.specs.Words.{texts}
use Rattle.words.specs.Lines.{lines_in}
use Rattle.words.proofs.Reading.{length_texts}
use Rattle.operands.specs.Reading.{all_add}
use Rattle.operands.proofs.reading.add_text.Goals as goal

pub returns : goal.returns
returns g c =
    let lines = c.in-Ok.ensures in
    let same = ap texts c.as_slice.ensures.value ∙ lines in
    let n : c.len.result ≡ length (lines_in c.args.text.now) = c.len.ensures ∙ c.in-Ok.lines.ok.0 ∙ sym (length_texts (vec_items c.in-Ok.lines)) ∙ ap length lines in
    (n, ap (λ (ls : List (List ℕ)). all_add g.R.Reader.adds ls (g.R.Reader.held c.args.all.now)) (sym same) ∙ c.in_ok-add_lines.ensures)
