-- Counting repeated entries by whole cycles, as the code does it.
use Rattle.std.proofs.Common.{◌≡◌, ℕ, ◌+◌, ◌-◌, ◌*◌, ◌/◌, ◌%◌, ◌<◌, ◌≤◌, cond, eqb, List, length, take, sym, ap, ◌∙◌, subst, arith}
use Rattle.std.proofs.lemmas.List.{take-map}
use Rattle.outlook.specs.declared.counts.Counts.{Counts}
use Rattle.outlook.specs.declared.packed.Packed.{Packed}
use Rattle.outlook.specs.Bytes.{front, repeated}
use Rattle.outlook.specs.Counting.{tally, both, times, Within}
use Rattle.outlook.specs.Packing.{packed_bytes, length_packed}
use Rattle.outlook.specs.Tallies.{tally_within, parts_within}
use Rattle.outlook.specs.Fronts.{front_short}
use Rattle.outlook.specs.Cycles.{tally_repeated, repeated_few}

-- what the code's figures come to: w whole cycles of n entries, and the rest of the front part
Cycled : List ℕ → ℕ → ℕ → ℕ → Counts → Type 0
Cycled xs u w n a =
    w ≤ 4096 / n → w * a.shown < u → (w < 4096 / n → u ≤ w * a.shown + a.shown)
    → both (times w a) (tally (front (u - w * a.shown) (take (cond (eqb w (4096 / n)) (4096 % n) n) xs))) ≡ tally (front u (repeated xs))

pub cycled : (es : List Packed) (u w end : ℕ) (cycle more rest : Counts) → 0 < length es → cycle ≡ tally (packed_bytes es)
    → w ≤ 4096 / length es → w * cycle.shown < u → (w < 4096 / length es → u ≤ w * cycle.shown + cycle.shown)
    → end ≡ cond (eqb w (4096 / length es)) (4096 % length es) (length es)
    → more ≡ times w cycle → rest ≡ tally (front (u - w * cycle.shown) (packed_bytes (take end es)))
    → both more rest ≡ tally (front u (repeated (packed_bytes es)))
unfolding Cycled
cycled es u w end cycle more rest h c le under last e m r =
    let xs : List ℕ = packed_bytes es in
    let n = length_packed es in
    let core : Cycled xs u w (length xs) (tally xs) = tally_repeated xs u w (omega arith) in
    let sized : Cycled xs u w (length es) (tally xs) = subst (λ p. Cycled xs u w p (tally xs)) n core in
    let all : Cycled xs u w (length es) cycle = subst (λ (a : Counts). Cycled xs u w (length es) a) (sym c) sized in
    ap (λ (a : Counts). both a rest) m
    ∙ ap (both (times w cycle)) r
    ∙ ap (λ ys. both (times w cycle) (tally (front (u - w * cycle.shown) ys))) (sym (take-map (λ (p : Packed). p.byte) end es))
    ∙ ap (λ i. both (times w cycle) (tally (front (u - w * cycle.shown) (take i xs)))) e
    ∙ all le under last

pub repeated_within : (u : ℕ) (xs : List ℕ) → Within 4096 (tally (front u (repeated xs)))
repeated_within u xs = tally_within 4096 (front u (repeated xs)) (omega (arith, front_short u (repeated xs), repeated_few xs))

-- so neither part is above it
pub cycled_within : (u : ℕ) (xs : List ℕ) (more rest : Counts) → both more rest ≡ tally (front u (repeated xs)) → Within 4096 more × Within 4096 rest
cycled_within u xs more rest e = parts_within 4096 more rest (subst (λ (a : Counts). Within 4096 a) (sym e) (repeated_within u xs))
