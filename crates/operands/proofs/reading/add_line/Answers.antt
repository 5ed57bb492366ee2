use Rattle.std.proofs.Common.{◌≡◌, ℕ, ◌<◌, List, length, Some, vec_items, Option, ap, ◌∙◌, subst, rules, MatchResult}
use Rattle.words.specs.Words.{texts}
use Rattle.words.proofs.Reading.{length_texts}
use Rattle.operands.specs.Faults.{Told}
use Rattle.operands.proofs.Lines.{no_words, some_words}
use Rattle.operands.proofs.reading.add_line.Goals as goal

pub returns-then-is_empty : goal.returns-then-is_empty
returns-then-is_empty g c =
    let l : length (texts (vec_items c.in_ok-words.words)) ≡ 0 = search (rules, length_texts (vec_items c.in_ok-words.words)) in
    no_words g.R.Reader.adds c.args.line.now (texts (vec_items c.in_ok-words.words)) (g.R.Reader.held c.args.all.now) c.in_ok-words.ensures l

pub returns : goal.returns
returns g c =
    let s = g.R.Reader.held c.args.all.now in
    let l : 0 < length (texts (vec_items c.in_ok-words.words)) = search (rules, length_texts (vec_items c.in_ok-words.words)) in
    let e = ap (λ (ws : List (List ℕ)). g.R.Reader.adds ws s) (c.new.ensures ∙ ap texts c.as_slice.ensures.value) ∙ some_words g.R.Reader.adds c.args.line.now (texts (vec_items c.in_ok-words.words)) s c.in_ok-words.ensures l in
    subst (λ (o : Option _). MatchResult c.add.result (λ _. o ≡ Some (g.R.Reader.held c.add.new.self)) (λ f. Told o f)) e c.add.ensures
