-- The test of a power of two by its digits.
use Rattle.std.specs.Prelude.{◌≡◌, ℕ, ◌+◌, ◌-◌, ◌^◌, ◌<◌, ◌≤◌, bit_and}

-- of the numbers with their top digit at place m, only 2^m shares no digit with the number before it
abbrev pub PowerTest : Type 0
PowerTest =
    (m w : ℕ) → 2 ^ m ≤ w → w < 2 ^ (m + 1)
    → (bit_and w (w - 1) ≡ 0 → w ≡ 2 ^ m) × (w ≡ 2 ^ m → bit_and w (w - 1) ≡ 0)
