-- The follower's parameters for a delay, in whole numbers.
use Rattle.std.specs.Prelude.{ℕ, ◌+◌, ◌*◌, ◌/◌, ◌^◌, ◌≤◌, max, ℤ, pos, ◌+ℤ◌, ◌-ℤ◌, ◌*ℤ◌, unsigned_abs}
use Rattle.std.specs.Int.Signed.{shr_z}
use Rattle.bessel.specs.declared.parameters.Parameters.{Parameters}
use Rattle.bessel.specs.Tangent.{warped}

-- 1 + k1 + k2 in Q15, from k1 in Q12 and k2 in Q24, halves up
abbrev pub divisor : ℕ → ℕ → ℕ
divisor k1 k2 = ((2 ^ 12 + k1) * 2 ^ 12 + k2 + 256) / 2 ^ 9

-- the gain k2 / (1 + k1 + k2) in Q32, rounded down
abbrev pub gain : ℕ → ℕ → ℕ
gain k1 k2 = k2 * 2 ^ 23 / divisor k1 k2

-- the weight of the last output in Q56, from the gain a and 1 / k2 in Q24
abbrev pub first : ℕ → ℕ → ℤ
first a ik2 = pos (2 * a) *ℤ (pos ik2 -ℤ pos (2 ^ 24))

-- the weight of the output before it in Q56: what 4 gains and the first weight lack of 1
abbrev pub second : ℕ → ℤ → ℤ
second a b1 = (pos (2 ^ 56) -ℤ pos (4 * a * 2 ^ 24)) -ℤ b1

-- from Q56 to the nearest in Q24, halves up
abbrev pub rounded : ℤ → ℤ
rounded b = shr_z (b +ℤ pos (2 ^ 31)) (2 ^ 32)

-- both weights and the gain in Q24, from the gain in Q32 and the first weight in Q56
abbrev pub of_gain : ℕ → ℤ → Parameters
of_gain a b1 = record { c0 = rounded b1; c1 = rounded (second a b1); g = pos ((a + 128) / 2 ^ 8) }

-- the parameters from the tangent w in Q12: k1 is 3 w, k2 is 3 w^2
abbrev pub of_tangent : ℕ → Parameters
of_tangent w = of_gain (gain (3 * w) (3 * w * w)) (first (gain (3 * w) (3 * w * w)) (2 ^ 48 / (3 * w * w)))

-- the parameters for a delay: its tangent is that of 1 / delay half turns, and at least 1; a delay below 4 counts as 4
unfoldable pub parameters : ℕ → Parameters
parameters delay = of_tangent (max (warped (2 ^ 24 / max delay 4)) 1)

-- c0 lies within 2 of 0, c1 within 5, and g between 0 and 1, all in Q24
abbrev pub InRange : Parameters → Type 0
InRange p = (unsigned_abs p.c0 ≤ 2 ^ 25) × (unsigned_abs p.c1 ≤ 5 * 2 ^ 24) × (unsigned_abs p.g ≤ 2 ^ 24)

-- both weights and 4 gains make up 1 in Q24, but for 3 units of rounding
abbrev pub Balanced : Parameters → Type 0
Balanced p = unsigned_abs (((p.c0 +ℤ p.c1) +ℤ pos 4 *ℤ p.g) -ℤ pos (2 ^ 24)) ≤ 3
