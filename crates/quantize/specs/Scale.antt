-- The scale of a plane: n / 65,536, n being kept within 2^53, so that nothing is rounded.
use Rattle.std.specs.Prelude.{ℕ, ◌^◌, ◌≤◌, min, false, ℤ, pos, negsuc, Float}
use Rattle.std.specs.Float.{binary64}
use Rattle.std.specs.Float.Ieee.{round}
use Rattle.std.specs.Float.Ieee.Exact.{HasValue}

-- the figure kept within 0 and 2^53
abbrev pub kept : ℤ → ℕ
kept (pos n) = min n (2 ^ 53)
kept (negsuc n) = 0

-- the f64 nearest to n / 65,536
unfoldable pub quotient : ℕ → Float
quotient n = round binary64 false n 65536

-- up to 2^53 that is n / 65,536 itself
abbrev pub NothingRounded : Type 0
NothingRounded = (n : ℕ) → n ≤ 2 ^ 53 → HasValue (quotient n) false n 65536

-- a float that is some n / 65,536 exactly, n up to 2^53
abbrev pub Exact : Float → Type 0
Exact x = (n : ℕ) × (n ≤ 9007199254740992) × HasValue x false n 65536
