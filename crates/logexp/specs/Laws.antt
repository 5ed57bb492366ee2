-- Laws of both functions in the subject's words: x or n is what was asked, and r is the answer.
use Rattle.std.specs.Prelude.{◌≡◌, ℕ, ◌+◌, ◌*◌, ◌^◌, ◌<◌, ◌≤◌, ℤ, pos, ◌≤ℤ◌, ◌<ℤ◌}
use Rattle.logexp.specs.LogExp.{bexp64, blog64}

-- the power of two of a whole number k is exact
abbrev pub ExactPower : ℤ → ℤ → Type 0
ExactPower x r = (k : ℕ) → k ≤ 62 → x ≡ pos (k * 2 ^ 57) → r ≡ pos (2 ^ k)

-- the power of a logarithm from k up to k + 1 lies from 2^k up to 2^(k + 1)
abbrev pub PowerBand : ℤ → ℤ → Type 0
PowerBand x r =
    (k : ℕ) → k ≤ 62 → pos (k * 2 ^ 57) ≤ℤ x → x <ℤ pos ((k + 1) * 2 ^ 57)
    → (pos (2 ^ k) ≤ℤ r) × (r ≤ℤ pos (2 ^ (k + 1)))

-- the logarithm of a power of two is exact
abbrev pub ExactLog : ℤ → ℤ → Type 0
ExactLog n r = (k : ℕ) → k ≤ 62 → n ≡ pos (2 ^ k) → r ≡ pos (k * 2 ^ 57)

-- the logarithm of a number from 2^m up to 2^(m + 1) lies from m up to m + 1
abbrev pub LogBand : ℤ → ℤ → Type 0
LogBand n r =
    (m : ℕ) → pos (2 ^ m) ≤ℤ n → n <ℤ pos (2 ^ (m + 1))
    → (pos (m * 2 ^ 57) ≤ℤ r) × (r ≤ℤ pos ((m + 1) * 2 ^ 57))

-- the power of the logarithm of a number stays from 2^m up to 2^(m + 1) where the number does
abbrev pub OctaveKept : Type 0
OctaveKept =
    (n m : ℕ) → m ≤ 62 → 2 ^ m ≤ n → n < 2 ^ (m + 1)
    → (pos (2 ^ m) ≤ℤ bexp64 (blog64 (pos n))) × (bexp64 (blog64 (pos n)) ≤ℤ pos (2 ^ (m + 1)))
