-- A number with its top digit at place m shares no digit with the number before it exactly if it is 2^m.
use Rattle.std.proofs.Common.{◌≡◌, ℕ, ◌+◌, ◌-◌, ◌*◌, ◌/◌, ◌%◌, ◌^◌, ◌<◌, ◌≤◌, sym, ap, ◌∙◌, inl, inr, arith}
use lib.Bits.{bit_and, and_mask, and_shr}
use Rattle.std.proofs.lemmas.Nat.{pow_pos, pow-add, shr_high, mod_low}
use Rattle.std.proofs.lemmas.Bool.Decides.{eqb_tells}
use Rattle.logexp.specs.Powers.{PowerTest}

-- the top digit is the quotient by 2^m
top_one : (m w : ℕ) → 2 ^ m ≤ w → w < 2 ^ (m + 1) → w / 2 ^ m ≡ 1
top_one m w h g =
    let e : 1 * 2 ^ m + (w - 2 ^ m) ≡ w = omega arith in
    let lt : w - 2 ^ m < 2 ^ m = omega (arith, pow-add 2 m 1) in rw e at (shr_high 1 m (w - 2 ^ m) lt)

power_of : (m w : ℕ) → w ≡ 2 ^ m → bit_and w (w - 1) ≡ 0
power_of m w e =
    let z : 1 * 2 ^ m + 0 ≡ 2 ^ m = omega arith in
    rw (e, and_mask (2 ^ m) m) (ap (λ (n : ℕ). n % 2 ^ m) (sym z) ∙ mod_low 1 m 0 (pow_pos m))

-- past 2^m, both have their top digit at place m
not_power : (m w : ℕ) → 2 ^ m < w → w < 2 ^ (m + 1) → bit_and w (w - 1) ≡ 0 → ⊥
not_power m w h g z =
    let q : bit_and (w / 2 ^ m) ((w - 1) / 2 ^ m) ≡ 0 / 2 ^ m = sym (and_shr w (w - 1) m) ∙ ap (λ (n : ℕ). n / 2 ^ m) z in
    let a = top_one m w (omega arith) g in
    let b = top_one m (w - 1) (omega arith) (omega arith) in
    let one : ◌≡◌ {A = ℕ} 1 (0 / 2 ^ m) = rw (a, b) at q in
    let p = pow_pos m in
    omega arith

pub power_test : PowerTest
power_test m w h g = (
  λ z. elim (eqb_tells w (2 ^ m)) [
    | inl t ↦ t.1
    | inr t ↦ absurd (not_power m w (omega arith) g z)
  ],
  power_of m w,
)
