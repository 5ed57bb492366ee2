-- The exponential of a logarithm lies between the powers of two around the number.
use Rattle.std.proofs.Common.{◌≡◌, ℕ, ◌+◌, ◌*◌, ◌^◌, ◌<◌, ◌≤◌, ℤ, pos, negsuc, ◌≤ℤ◌, inl, inr, arith, pow_mono}
use Rattle.std.proofs.lemmas.Int.{ints}
use Rattle.std.proofs.lemmas.Bool.{cases_lt}
use Rattle.logexp.specs.Laws.{ExactPower, PowerBand, LogBand}
use Rattle.model.specs.Laws.{NearSeen}

-- a number of 32 bits has its top digit below place 32
place_in : (b m : ℕ) → b < 2 ^ 32 → 2 ^ m ≤ b → m < 32
place_in b m h g =
    elim (cases_lt m 32) [
      | inl a ↦ a
      | inr a ↦ absurd (omega (arith, pow_mono a))
    ]

around : (m : ℕ) (l r : ℤ) → m < 32 → pos (m * 2 ^ 57) ≤ℤ l → l ≤ℤ pos ((m + 1) * 2 ^ 57) → PowerBand l r → ExactPower l r
    → (pos (2 ^ m) ≤ℤ r) × (r ≤ℤ pos (2 ^ (m + 1)))
around m (negsuc n) r h a b p e = absurd a.le
around m (pos n) r h a b p e =
    elim (cases_lt n ((m + 1) * 2 ^ 57)) [
      | inl g ↦ p m (omega arith) a (omega (arith, ints))
      | inr g ↦
          let q : pos n ≡ pos ((m + 1) * 2 ^ 57) = omega (arith, ints) in
          let z = e (m + 1) (omega arith) q in
          let j : m ≤ m + 1 = omega arith in
          rw z (omega (arith, ints, pow_mono j), omega (arith, ints))
    ]

pub near_seen : (b : ℕ) (z l r : ℤ) → b < 2 ^ 32 → z ≡ pos b → LogBand z l → PowerBand l r → ExactPower l r → NearSeen b r
near_seen b z l r h q k p e m a c =
    let w = k m (rw q (omega (arith, ints))) (rw q (omega (arith, ints))) in
    around m l r (place_in b m h a) w.0 w.1 p e
