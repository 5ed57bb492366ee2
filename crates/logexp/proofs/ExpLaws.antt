-- The exponential lies between the powers of two around it: what the turns reach, put through the rounding.
use Rattle.std.proofs.Common.{◌≡◌, ℕ, zero, suc, ◌+◌, ◌-◌, ◌*◌, ◌/◌, ◌^◌, ◌<◌, ◌≤◌, ◌⊎◌, ℤ, pos, negsuc, ◌+ℤ◌, ◌*ℤ◌, ◌≤ℤ◌, ◌<ℤ◌, sym, refl, ap, ◌∙◌, subst, inl, inr, suc-mul, arith, pow_mono}
use Rattle.std.proofs.lemmas.Int.{ints}
use Rattle.std.proofs.lemmas.Nat.{pow_pos, pow-add, le-div, div_below}
use Rattle.std.proofs.lemmas.Bool.{cases_lt}
use Rattle.logexp.specs.Cordic.{shr}
use Rattle.logexp.specs.Held.{held}
use Rattle.logexp.specs.LogExp.{exp_turns, tail_turns, tail, scaled, rounded, bexp64}
use Rattle.logexp.specs.Laws.{PowerBand}
use Rattle.logexp.specs.declared.exp.Exp.{Exp}
use Rattle.logexp.proofs.ExpTurns.{tail_none, tail_done}
use Rattle.logexp.proofs.ExpEnds.{scaled_zero, scaled_other, rounded_off, rounded_as, bexp_mid, bexp_top, left_over}
use Rattle.logexp.proofs.ExpBand.{short, full}

held_most : (a : ℤ) → held a <ℤ pos (2 ^ 63)
held_most (pos n) = omega (arith, ints)
held_most (negsuc n) = omega (arith, ints)

held_above : (a : ℤ) → pos (2 ^ 62) ≤ℤ a → pos (2 ^ 62) ≤ℤ held a
held_above (pos n) h = omega (arith, ints)
held_above (negsuc n) h = absurd h.le

held_short : (w : ℤ) → pos (2 ^ 61 - 2 ^ 30) ≤ℤ w → pos (2 ^ 62) ≤ℤ (held (held (w *ℤ pos 2) +ℤ pos 0) +ℤ pos (2 ^ 31))
held_short (pos n) h = omega (arith, ints)
held_short (negsuc n) h = absurd h.le

-- a fraction that is not 0, in Q62
from_one : (z : ℤ) → pos 0 ≤ℤ z → z <ℤ pos (2 ^ 57) → (z ≡ pos 0 → ⊥) → (pos 32 ≤ℤ (z *ℤ pos 32)) × ((z *ℤ pos 32) ≤ℤ pos (2 ^ 62 - 32))
from_one (negsuc n) h g q = absurd h.le
from_one (pos zero) h g q = absurd (q refl)
from_one (pos (suc n)) h g q = omega (arith, ints)

is_zero : (z : ℤ) → (z ≡ pos 0) ⊎ (z ≡ pos 0 → ⊥)
is_zero (pos zero) = inl refl
is_zero (pos (suc n)) = inr (λ e. omega (arith, ints))
is_zero (negsuc n) = inr (λ e. omega (arith, ints))

pub scaled_most : (i : ℕ) (z : ℤ) → scaled i z <ℤ pos (2 ^ 63)
scaled_most i z =
    elim (is_zero z) [
      | inl e ↦ omega (arith, ints, scaled_zero i z e)
      | inr n ↦ omega (arith, ints, scaled_other i z n, held_most (held ((exp_turns (z *ℤ pos 32) 34).w *ℤ pos 2) +ℤ tail i (exp_turns (z *ℤ pos 32) 34)))
    ]

scaled_full : (i : ℕ) (z : ℤ) → 30 < i → pos 0 ≤ℤ z → z <ℤ pos (2 ^ 57) → pos (2 ^ 62) ≤ℤ scaled i z
scaled_full i z l h g =
    elim (is_zero z) [
      | inl e ↦ omega (arith, ints, scaled_zero i z e)
      | inr n ↦
          let e : Exp = exp_turns (z *ℤ pos 32) 34 in
          let f = full (z *ℤ pos 32) (from_one z h g n).0 (from_one z h g n).1 in
          let t : tail i e ≡ (tail_turns e 30).lo = sym (tail_done i 30 e (tail_turns e 30) l refl refl) in
          rw (scaled_other i z n, t) (held_above _ f)
    ]

scaled_short : (i : ℕ) (z : ℤ) → i ≤ 30 → pos 0 ≤ℤ z → z <ℤ pos (2 ^ 57) → pos (2 ^ 62) ≤ℤ (scaled i z +ℤ pos (2 ^ 31))
scaled_short i z l h g =
    elim (is_zero z) [
      | inl e ↦ omega (arith, ints, scaled_zero i z e)
      | inr n ↦
          let f = short (z *ℤ pos 32) (from_one z h g n).0 (from_one z h g n).1 in
          rw (scaled_other i z n, tail_none i (exp_turns (z *ℤ pos 32) 34) l) (held_short _ f)
    ]

-- what is wanting is less than the rounding makes up for
pub scaled_least : (i : ℕ) (z : ℤ) → i ≤ 61 → pos 0 ≤ℤ z → z <ℤ pos (2 ^ 57) → pos (2 ^ 62) ≤ℤ (scaled i z +ℤ pos (2 ^ (61 - i)))
scaled_least i z l h g =
    elim (cases_lt 30 i) [
      | inl a ↦ omega (arith, ints, scaled_full i z a h g)
      | inr a ↦
          let b : 31 ≤ 61 - i = omega arith in omega (arith, ints, scaled_short i z a h g, pow_mono b)
    ]

-- the rounding of n to the place i
round_band : (n i : ℕ) → i ≤ 61 → 2 ^ 62 ≤ n + 2 ^ (61 - i) → n < 2 ^ 63 → (2 ^ i ≤ (n / 2 ^ (61 - i) + 1) / 2) × ((n / 2 ^ (61 - i) + 1) / 2 ≤ 2 ^ (i + 1))
round_band n i l h g =
    let s : (i + 1) + (61 - i) ≡ 62 = omega arith in
    let w : 2 ^ 62 ≡ 2 ^ (i + 1) * 2 ^ (61 - i) = ap (λ (j : ℕ). 2 ^ j) (sym s) ∙ pow-add 2 (i + 1) (61 - i) in
    let t : 2 ^ (i + 1) ≡ 2 * 2 ^ i = pow-add 2 i 1 ∙ omega arith in
    let p = pow_pos (61 - i) in
    let u : suc (2 ^ (i + 1) - 1) ≡ 2 ^ (i + 1) = omega (arith, pow_pos (i + 1)) in
    let m = ap (λ (j : ℕ). j * 2 ^ (61 - i)) (sym u) ∙ suc-mul (2 ^ (i + 1) - 1) (2 ^ (61 - i)) in
    let a : (2 ^ (i + 1) - 1) * 2 ^ (61 - i) ≤ n = omega arith in
    let b : n < (2 * 2 ^ (i + 1)) * 2 ^ (61 - i) = omega arith in
    omega (arith, le-div (2 ^ (i + 1) - 1) n (2 ^ (61 - i)) p a, div_below n (2 ^ (61 - i)) (2 * 2 ^ (i + 1)) p b)

rounded_band : (w : ℤ) (i : ℕ) → i ≤ 61 → pos (2 ^ 62) ≤ℤ (w +ℤ pos (2 ^ (61 - i))) → w <ℤ pos (2 ^ 63) → (pos (2 ^ i) ≤ℤ shr (shr w (61 - i) +ℤ pos 1) 1) × (shr (shr w (61 - i) +ℤ pos 1) 1 ≤ℤ pos (2 ^ (i + 1)))
rounded_band (pos n) i l h g = let b = round_band n i l (omega (arith, ints)) (omega (arith, ints)) in omega (arith, ints)
rounded_band (negsuc n) i l h g = let b : 61 - i ≤ 61 = omega arith in absurd (omega (arith, ints, pow_mono b))

pub band : (i : ℕ) (z : ℤ) → i ≤ 62 → pos 0 ≤ℤ z → z <ℤ pos (2 ^ 57) → (pos (2 ^ i) ≤ℤ rounded (scaled i z) i) × (rounded (scaled i z) i ≤ℤ pos (2 ^ (i + 1)))
band i z l h g =
    elim (cases_lt i 62) [
      | inl a ↦ rw (rounded_off (scaled i z) i a) (rounded_band (scaled i z) i (omega arith) (scaled_least i z (omega arith) h g) (scaled_most i z))
      | inr a ↦
          let e : 62 ≡ i = omega arith in
          subst (λ (j : ℕ). (pos (2 ^ j) ≤ℤ rounded (scaled j z) j) × (rounded (scaled j z) j ≤ℤ pos (2 ^ (j + 1)))) e
          (rw (rounded_as (scaled 62 z) 62 (omega arith)) (scaled_full 62 z (omega arith) h g, omega (arith, ints, scaled_most 62 z)))
    ]

whole_is : (x : ℤ) (k : ℕ) → pos (k * 2 ^ 57) ≤ℤ x → x <ℤ pos ((k + 1) * 2 ^ 57) → shr x 57 ≡ pos k
whole_is (pos n) k h g = omega (arith, ints)
whole_is (negsuc n) k h g = absurd h.le

pub power_band : (x r : ℤ) → r ≡ bexp64 x → PowerBand x r
power_band x r e k l h g =
    let s = whole_is x k h g in
    let f = left_over x (omega (arith, ints)) in
    rw (e ∙ bexp_mid x k s (omega arith)) (band k _ l f.0 f.1)

pub positive : (x r : ℤ) → r ≡ bexp64 x → pos 0 ≤ℤ x → pos 1 ≤ℤ r
positive (negsuc n) r e h = absurd h.le
positive (pos n) r e h =
    elim (cases_lt (n / 2 ^ 57) 63) [
      | inl a ↦ omega (arith, ints, pow_pos (n / 2 ^ 57), power_band (pos n) r e (n / 2 ^ 57) (omega arith) (omega (arith, ints)) (omega (arith, ints)))
      | inr a ↦ omega (arith, ints, e ∙ bexp_top (pos n) (omega (arith, ints)))
    ]
