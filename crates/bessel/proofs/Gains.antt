-- How far the follower's parameters reach.
use Rattle.std.proofs.Common.{◌≡◌, ℕ, ◌+◌, ◌*◌, ◌/◌, ◌^◌, ◌<◌, ◌≤◌, max, ℤ, pos, negsuc, ◌+ℤ◌, ◌-ℤ◌, ◌*ℤ◌, nat_abs, refl, ◌∙◌, inl, inr, mul-le-mul_right, div-lt_iff_lt-mul, mul-le-mul_left, div-mul-le_self, arith}
use lib.Signed.{shr_z}
use Rattle.std.proofs.lemmas.Int.{ints}
use Rattle.std.proofs.lemmas.Bool.{cases_lt}
use Rattle.bessel.specs.Tangent.{warped}
use Rattle.bessel.specs.Parameters.{gain, first, second, rounded, parameters, InRange, Balanced}

pub gain_small : (k2 d : ℕ) → 2 ^ 15 ≤ d → k2 < d * 2 ^ 9 → k2 * 2 ^ 23 / d < 2 ^ 32
gain_small k2 d p q = (div-lt_iff_lt-mul {k = d} {x = k2 * 2 ^ 23} {y = 2 ^ 32} (omega arith)).1 (omega arith)

-- what is divided by d and by k2 is no more than what is divided by the least d alone
pub gain_near : (k2 d : ℕ) → 2 ^ 15 ≤ d → k2 * 2 ^ 23 / d * (2 ^ 48 / k2) ≤ 2 ^ 56
gain_near k2 d q = by (k2 * 2 ^ 23 / d) (2 ^ 48 / k2) (div-mul-le_self (k2 * 2 ^ 23) d) (div-mul-le_self (2 ^ 48) k2)
  where
    by : (a i : ℕ) → a * d ≤ k2 * 2 ^ 23 → i * k2 ≤ 2 ^ 48 → a * i ≤ 2 ^ 56
    by a i h g =
        let l : a * 2 ^ 15 ≤ a * d = mul-le-mul_left a q in
        let m : a ≤ k2 * 2 ^ 8 = omega arith in
        let n : a * i ≤ k2 * 2 ^ 8 * i = mul-le-mul_right i m in
        omega arith

abs_times : (x : ℕ) (z : ℤ) → nat_abs (pos x *ℤ z) ≡ x * nat_abs z
abs_times x (pos n) = refl
abs_times x (negsuc n) = omega (arith, ints)

times_gap : (a i : ℕ) → a < 2 ^ 32 → a * i ≤ 2 ^ 56 → 2 * a * nat_abs (pos i -ℤ pos (2 ^ 24)) ≤ 2 ^ 57
times_gap a i p q =
    elim (cases_lt i (2 ^ 24)) [
      | inl l ↦
          let h : nat_abs (pos i -ℤ pos (2 ^ 24)) ≤ 2 ^ 24 = omega (arith, ints) in
          omega (arith, mul-le-mul_left (2 * a) h)
      | inr l ↦
          let h : nat_abs (pos i -ℤ pos (2 ^ 24)) ≤ i = omega (arith, ints) in
          omega (arith, mul-le-mul_left (2 * a) h)
    ]

pub first_small : (a i : ℕ) → a < 2 ^ 32 → a * i ≤ 2 ^ 56 → nat_abs (first a i) ≤ 2 ^ 57
first_small a i p q = rw (abs_times (2 * a) (pos i -ℤ pos (2 ^ 24))) (times_gap a i p q)

-- the square of a tangent
pub square_in : (w : ℕ) → 0 < w → w ≤ 2 ^ 17 → (0 < 3 * w * w) × (3 * w * w < 2 ^ 36)
square_in w p q =
    let h : 3 * w * 1 ≤ 3 * w * w = mul-le-mul_left (3 * w) p in
    let g : 3 * w * w ≤ 3 * w * 2 ^ 17 = mul-le-mul_left (3 * w) q in
    (omega arith, omega arith)

pub alpha_in : (d : ℕ) → 4 ≤ d → 2 ^ 24 / d ≤ 2 ^ 22
alpha_in d p =
    let h : 2 ^ 24 / d * 4 ≤ 2 ^ 24 / d * d = mul-le-mul_left (2 ^ 24 / d) p in
    omega (arith, div-mul-le_self (2 ^ 24) d)

-- two parts of a sum, each rounded to the nearest, and 4 times the rest, rounded too
balance_of : (s t : ℤ) (a : ℕ) → s +ℤ t ≡ pos (2 ^ 56 + 2 ^ 32) -ℤ pos (4 * a * 2 ^ 24)
    → nat_abs (((shr_z s (2 ^ 32) +ℤ shr_z t (2 ^ 32)) +ℤ pos 4 *ℤ pos ((a + 128) / 2 ^ 8)) -ℤ pos (2 ^ 24)) ≤ 3
balance_of (pos n) (pos m) a h = omega (arith, ints)
balance_of (pos n) (negsuc m) a h = omega (arith, ints)
balance_of (negsuc n) (pos m) a h = omega (arith, ints)
balance_of (negsuc n) (negsuc m) a h = omega (arith, ints)

-- what is answered, s1 to s3, from the steps' numbers
pub balanced_by : (a : ℕ) (b1 b2 r1 r2 s1 s2 s3 : ℤ) → r1 ≡ rounded b1 → b2 ≡ second a b1 → r2 ≡ rounded b2
    → s1 ≡ r1 → s2 ≡ r2 → s3 ≡ pos ((a + 128) / 2 ^ 8) → Balanced (record { c0 = s1; c1 = s2; g = s3 })
balanced_by a b1 b2 r1 r2 s1 s2 s3 e1 e2 e3 e4 e5 e6 =
    rw (e4 ∙ e1, e5 ∙ e3, e6) (balance_of (b1 +ℤ pos (2 ^ 31)) (b2 +ℤ pos (2 ^ 31)) a (omega (arith, ints)))

pub in_range_by : (a : ℕ) (r1 r2 s1 s2 s3 : ℤ) → a < 2 ^ 32 → nat_abs r1 ≤ 2 ^ 25 → nat_abs r2 ≤ 5 * 2 ^ 24
    → s1 ≡ r1 → s2 ≡ r2 → s3 ≡ pos ((a + 128) / 2 ^ 8) → InRange (record { c0 = s1; c1 = s2; g = s3 })
in_range_by a r1 r2 s1 s2 s3 h1 h2 h3 e1 e2 e3 = rw (e1, e2, e3) (h2, h3, omega (arith, ints))

-- the parameters, step by step
pub parameters_by : (delay warp a : ℕ) (b1 b2 r1 r2 s1 s2 s3 : ℤ)
    → warp ≡ max (warped (2 ^ 24 / max delay 4)) 1 → a ≡ gain (3 * warp) (3 * warp * warp)
    → b1 ≡ first a (2 ^ 48 / (3 * warp * warp)) → r1 ≡ rounded b1 → b2 ≡ second a b1 → r2 ≡ rounded b2
    → s1 ≡ r1 → s2 ≡ r2 → s3 ≡ pos ((a + 128) / 2 ^ 8)
    → record { c0 = s1; c1 = s2; g = s3 } ≡ parameters delay
unfolding parameters
parameters_by delay warp a b1 b2 r1 r2 s1 s2 s3 e1 e2 e3 e4 e5 e6 e7 e8 e9 = cc
