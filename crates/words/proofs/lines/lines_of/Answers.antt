use Rattle.std.proofs.Common.{◌≡◌, true, false, take, eqb, vec_items, None, refl, sym, ◌∙◌, append-nil, rules, tests}
use Rattle.std.proofs.lemmas.Iterator.{IsFirst-from_position}
use Rattle.std.proofs.lemmas.Iterator.Adapters.{YieldsList-from_bytes}
use Rattle.std.proofs.lemmas.Str.{IsCharBoundary-after_ascii}
use Rattle.words.proofs.Parting.{FirstAt, NoneIn, feed_ascii, first_line, last_line, one_more}
use Rattle.words.proofs.lines.lines_of.Goals as goal

pub range_from-rest-requires : goal.range_from-rest-requires
range_from-rest-requires c =
    let first : FirstAt (λ b. eqb b 10) c.loop-at.rest.now c.in-Some.at = IsFirst-from_position _ _ _ (λ b. eqb b 10 ≡ true) (λ b. eqb b 10 ≡ false) c.in-Some.ensures.ran (YieldsList-from_bytes _ c.bytes.ensures.rest) (λ x q k. search (rules, tests)) (λ x q k. search (rules, tests)) in
    λ p. IsCharBoundary-after_ascii c.loop-at.rest.now c.in-Some.at c.loop-at.invariant.0 first.0 (feed_ascii _ _ first)

pub loop-at-preserved : goal.loop-at-preserved
loop-at-preserved c =
    let first : FirstAt (λ b. eqb b 10) c.loop-at.rest.now c.in-Some.at = IsFirst-from_position _ _ _ (λ b. eqb b 10 ≡ true) (λ b. eqb b 10 ≡ false) c.in-Some.ensures.ran (YieldsList-from_bytes _ c.bytes.ensures.rest) (λ x q k. search (rules, tests)) (λ x q k. search (rules, tests)) in
    let piece : c.range.result.now ≡ take c.in-Some.at c.loop-at.rest.now = search rules in
    let whole = one_more (vec_items c.loop-at.lines) c.range.result _ _ _ _ piece (first_line _ _ first) c.loop-at.invariant.1 in
    (c.range_from-rest.utf8, rw (c.in_ok-push.ensures.items, c.range_from-rest.ensures.value) whole)

pub returns : goal.returns
returns c =
    let none : NoneIn (λ b. eqb b 10) c.loop-at.rest.now = IsFirst-from_position _ _ None (λ b. eqb b 10 ≡ true) (λ b. eqb b 10 ≡ false) c.in_default.ensures.ran (YieldsList-from_bytes _ c.bytes.ensures.rest) (λ x q k. search (rules, tests)) (λ x q k. search (rules, tests)) in
    let whole = one_more (vec_items c.loop-at.lines) c.loop-at.rest _ _ _ _ refl (last_line _ none) c.loop-at.invariant.1 in
    rw c.in_ok-push-2.ensures.items (sym (append-nil _) ∙ whole)
