use Rattle.std.proofs.Common.{◌≡◌, ℕ, ◌<◌, List, ◌++◌, true, false, length, take, vec_items, None, refl, ap, sym, ◌∙◌, append-nil, rules, tests, []}
use Rattle.std.specs.Char.{is_ascii_whitespace}
use Rattle.std.proofs.lemmas.Iterator.{IsFirst-from_position}
use Rattle.std.proofs.lemmas.Iterator.Adapters.{YieldsList-from_bytes}
use Rattle.std.proofs.lemmas.Str.{IsCharBoundary-after_ascii}
use Rattle.numerals.specs.Words.{texts}
use Rattle.words.specs.Lines.{parted, ended}
use Rattle.words.proofs.Parting.{FirstAt, NoneIn, white_at, first_word, last_word, ended_some, ended_none, one_more, trimmed}
use Rattle.words.proofs.lines.words_of.Goals as goal
use Rattle.words.proofs.lines.words_of.Goals.{then-not-is_empty+in_ok-push-2, else-not-is_empty}

pub loop-at-init : goal.loop-at-init
loop-at-init c =
    let t = trimmed c.before_comment.result.now c.trim_ascii_start-rest.result.now c.trim_ascii_start-rest.ensures.value in
    (c.trim_ascii_start-rest.utf8, t.0, rw c.new-words.ensures.items (sym t.1 ∙ ap (parted ended is_ascii_whitespace []) c.before_comment.ensures))

pub range_from-requires : goal.range_from-requires
range_from-requires c =
    let first : FirstAt is_ascii_whitespace c.loop-at.rest.now c.in-Some.at = IsFirst-from_position _ _ _ (λ b. is_ascii_whitespace b ≡ true) (λ b. is_ascii_whitespace b ≡ false) c.in-Some.ensures.ran (YieldsList-from_bytes _ c.bytes.ensures.rest) (λ x q k. search (rules, tests)) (λ x q k. search (rules, tests)) in
    λ p. IsCharBoundary-after_ascii c.loop-at.rest.now c.in-Some.at c.loop-at.invariant.0 first.0 (white_at _ _ first)

pub loop-at-preserved : goal.loop-at-preserved
loop-at-preserved c =
    let first : FirstAt is_ascii_whitespace c.loop-at.rest.now c.in-Some.at = IsFirst-from_position _ _ _ (λ b. is_ascii_whitespace b ≡ true) (λ b. is_ascii_whitespace b ≡ false) c.in-Some.ensures.ran (YieldsList-from_bytes _ c.bytes.ensures.rest) (λ x q k. search (rules, tests)) (λ x q k. search (rules, tests)) in
    let piece : c.range.result.now ≡ take c.in-Some.at c.loop-at.rest.now = search rules in
    let t = trimmed c.range_from.result.now c.trim_ascii_start-rest-in-Some.result.now c.trim_ascii_start-rest-in-Some.ensures.value in
    let whole = one_more (vec_items c.loop-at.words) c.range.result _ _ _ _ piece (first_word _ _ c.loop-at.invariant.1 first) c.loop-at.invariant.2 in
    (c.trim_ascii_start-rest-in-Some.utf8, t.0, rw (← t.1, c.range_from.ensures.value) (search (rules, whole)))

pub returns : goal.returns
returns c =
    let none : NoneIn is_ascii_whitespace c.loop-at.rest.now = IsFirst-from_position _ _ None (λ b. is_ascii_whitespace b ≡ true) (λ b. is_ascii_whitespace b ≡ false) c.in_default.ensures.ran (YieldsList-from_bytes _ c.bytes.ensures.rest) (λ x q k. search (rules, tests)) (λ x q k. search (rules, tests)) in
    elim c.if-not-is_empty.branch [
      | then-not-is_empty+in_ok-push-2 w ↦
          let some : 0 < length c.loop-at.rest.now = search rules in
          let whole = one_more (vec_items c.loop-at.words) c.loop-at.rest _ _ _ _ refl (last_word _ none ∙ ended_some _ [] some) c.loop-at.invariant.2 in
          rw (w.words-is, w.in_ok-push-2.ensures.items) (sym (append-nil _) ∙ whole)
      | else-not-is_empty w ↦
          let empty : length c.loop-at.rest.now ≡ 0 = search rules in
          rw w.words-is (sym (append-nil _) ∙ ap (λ (us : List (List ℕ)). texts (vec_items c.loop-at.words) ++ us) (sym (last_word _ none ∙ ended_none _ [] empty)) ∙ c.loop-at.invariant.2)
    ]
