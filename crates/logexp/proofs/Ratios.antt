-- A bound of the ratio of two numbers through a turn: one number grows by its 1/s-th part and the other
-- shrinks by it, each up to two units. A bound p of the ratio is in units of 2^-68.
use Rattle.std.proofs.Common.{◌≡◌, ℕ, ◌+◌, ◌-◌, ◌*◌, ◌/◌, ◌^◌, ◌<◌, ◌≤◌, ap, inl, inr, mul-le-mul_left, div-mul-le_self, arith}
use native.Mathlib.Nat.{le_of_mul-le-mul_left, lt-div-mul-add, add-mul-div_right}
use lib.Pow.{shr_mono}
use Rattle.std.proofs.lemmas.Nat.{le-div, pow_pos}
use Rattle.std.proofs.lemmas.Bool.{cases_eq}

-- the bound that stands for the ratio 1
abbrev pub unit : ℕ
unit = 2 ^ 68

-- t' is f / s of t, up to two units
pub record Near (f s t t' : ℕ) : Type 0 where
  pub least : f * t ≤ s * t' + 2 * s
  pub most : s * t' ≤ f * t + 2 * s

-- the bound p of y / x after a turn that takes x, which is at least c, to f / s of it and y to g / s of it
unfoldable pub next : ℕ → ℕ → ℕ → ℕ → ℕ → ℕ
next c s f g p = (p * g - (s * (2 * (p * g / f) + 2 * unit) / c + 1)) / f

-- the slack e makes up for the units
with_slack : (s f g p x y x' y' p' e : ℕ) → 0 < s → p' * f + e ≤ p * g → s * (2 * p' + 2 * unit) ≤ e * x → p * x ≤ unit * y → s * x' ≤ f * x + 2 * s → g * y ≤ s * y' + 2 * s → p' * x' ≤ unit * y'
with_slack s f g p x y x' y' p' e h a b c d k =
    let m₁ = mul-le-mul_left p' d in
    let m₂ = mul-le-mul_left unit k in
    let m₃ = mul-le-mul_left g c in
    let m₄ = mul-le-mul_left x a in
    let all : s * (p' * x') ≤ s * (unit * y') = omega arith in le_of_mul-le-mul_left all h

positive : (n : ℕ) → (n ≡ 0 → ⊥) → 1 ≤ n
positive n q = omega arith

taken_off : (n e f : ℕ) → 0 < f → ((n - e) / f ≡ 0 → ⊥) → (n - e) / f * f + e ≤ n
taken_off n e f h q =
    let d = div-mul-le_self (n - e) f in
    let m = mul-le-mul_left f (positive ((n - e) / f) q) in omega arith

pub next_holds : (c s f g p x y x' y' : ℕ) → 0 < s → 0 < f → 0 < c → c ≤ x → p * x ≤ unit * y → s * x' ≤ f * x + 2 * s → g * y ≤ s * y' + 2 * s → next c s f g p * x' ≤ unit * y'
unfolding next
next_holds c s f g p x y x' y' h l o b q d k =
    let e : ℕ = s * (2 * (p * g / f) + 2 * unit) / c + 1 in
    let p' : ℕ = (p * g - e) / f in
    elim (cases_eq p' 0) [
      | inl z ↦ rw z (omega arith)
      | inr z ↦
          let t : p' * f + e ≤ p * g = taken_off (p * g) e f l z in
          let w : p' ≤ p * g / f = le-div p' (p * g) f l (omega arith) in
          let m = mul-le-mul_left s w in
          let n = mul-le-mul_left e b in
          let r = lt-div-mul-add {a = s * (2 * (p * g / f) + 2 * unit)} o in
          with_slack s f g p x y x' y' p' e h t (omega arith) q d k
    ]

-- a number less its part, and a number with its part
pub shrunk : (s f t j t' : ℕ) → 0 < s → f + 1 ≡ s → t' + j ≡ t + 1 → t / s ≤ j → j ≤ t / s + 2 → Near f s t t'
shrunk s f t j t' h e d a b =
    let q = div-mul-le_self t s in
    let r = lt-div-mul-add {a = t} h in
    let m = mul-le-mul_left s a in
    let n = mul-le-mul_left s b in
    let w : s * (t' + j) ≡ s * (t + 1) = ap (λ (i : ℕ). s * i) d in
    let v : (f + 1) * t ≡ s * t = ap (λ (i : ℕ). i * t) e in
    record { least = omega arith; most = omega arith }

pub grown_by : (s t j t' : ℕ) → 0 < s → t' + 1 ≡ t + j → t / s ≤ j → j ≤ t / s + 2 → Near (s + 1) s t t'
grown_by s t j t' h d a b =
    let q = div-mul-le_self t s in
    let r = lt-div-mul-add {a = t} h in
    let m = mul-le-mul_left s a in
    let n = mul-le-mul_left s b in
    let w : s * (t' + 1) ≡ s * (t + j) = ap (λ (i : ℕ). s * i) d in
    record { least = omega arith; most = omega arith }

-- what is left of a number after its 2^s-th part grows with the number
pub shrink : (u v s : ℕ) → u ≤ v → u + v / 2 ^ s ≤ v + u / 2 ^ s
shrink u v s h =
    let d : v - u ≤ (v - u) * 2 ^ s = omega (arith, mul-le-mul_left (v - u) (pow_pos s)) in
    let m : v ≤ u + (v - u) * 2 ^ s = omega arith in
    let q : v / 2 ^ s ≤ u / 2 ^ s + (v - u) = rw (← add-mul-div_right u (v - u) (pow_pos s)) (shr_mono s m) in
    omega arith
