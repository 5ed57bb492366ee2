-- A walk over entries, whose bytes are counted.
use Rattle.std.proofs.Common.{◌≡◌, ℕ, ◌+◌, ◌-◌, ◌<◌, ◌≤◌, Bool, true, false, cond, List, [], ◌∷◌, ◌++◌, length, get_or, take, drop, sym, ap, ◌∙◌, subst, arith}
use Rattle.std.proofs.lemmas.List.{length-take}
use Rattle.outlook.specs.declared.counts.Counts.{Counts}
use Rattle.outlook.specs.declared.packed.Packed.{Packed}
use Rattle.outlook.specs.Bytes.{is_shown, unit, front}
use Rattle.outlook.specs.Counting.{tally, both, Within}
use Rattle.outlook.specs.Packing.{packed_bytes, length_packed}
use Rattle.outlook.specs.Tallies.{tally_more, tally_within}
use Rattle.outlook.specs.Fronts.{front_more}

pub walk_within : (es : List Packed) (i : ℕ) (a : Counts) → length es ≤ 4096 → a ≡ tally (take i (packed_bytes es)) → Within 4096 a
walk_within es i a h e =
    subst (λ (b : Counts). Within 4096 b) (sym e) (tally_within 4096 (take i (packed_bytes es)) (omega (arith, length-take i (packed_bytes es), length_packed es)))

pub one_within : (a : Counts) (x : ℕ) → a ≡ tally (x ∷ []) → Within 4096 a
one_within a x e = subst (λ (b : Counts). Within 4096 b) (sym e) (tally_within 4096 (x ∷ []) (omega arith))

-- an entry is one unit at most
pub unit_most : (b : Bool) → cond b 1 0 ≤ 1
unit_most true = omega arith
unit_most false = omega arith

-- what a walk keeps: the counts so far, what is left to cover, and the units
abbrev pub Walked : List ℕ → ℕ → ℕ → Counts → Type 0
Walked xs u i a = (a ≡ tally (take i xs)) × (take i xs ++ front (u - a.shown) (drop i xs) ≡ front u xs) × (a.shown ≤ u)

pub walk_more : (xs : List ℕ) (u i x : ℕ) (a b : Counts) → Walked xs u i a → i < length xs → x ≡ get_or xs i 0
    → (a.shown ≡ u → ⊥) → b ≡ both a (tally (x ∷ [])) → Walked xs u (i + 1) b
walk_more xs u i x a b w h k ne e =
    let under : a.shown < u = omega arith in
    let shown : b.shown ≡ a.shown + unit (get_or xs i 0) = ap (λ (c : Counts). c.shown) e ∙ ap (λ y. a.shown + (0 + unit y)) k ∙ omega arith in
    let counted : b ≡ tally (take (i + 1) xs)
    = e ∙ ap (λ y. both a (tally (y ∷ []))) k ∙ ap (λ (c : Counts). both c (tally (get_or xs i 0 ∷ []))) w.0 ∙ sym (tally_more xs i h) in (
      counted,
      ap (λ n. take (i + 1) xs ++ front (u - n) (drop (i + 1) xs)) shown ∙ front_more xs i u a.shown h under w.1,
      omega (arith, unit_most (is_shown (get_or xs i 0))),
    )
