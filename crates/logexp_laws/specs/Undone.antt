-- The logarithm and the exponential undo each other.
use Rattle.std.specs.Prelude.{◌≡◌, ℕ, suc, ◌<◌, ◌≤◌, pos, ◌<ℤ◌}
use Rattle.logexp.specs.LogExp.{blog64, bexp64}

-- every number from 1 up to r, r excluded, is the power of two of its own logarithm
abbrev pub Undone : ℕ → Type 0
Undone r = (n : ℕ) → 1 ≤ n → n < r → bexp64 (blog64 (pos n)) ≡ pos n

-- the logarithm of every such number is below that of the next
abbrev pub Rising : ℕ → Type 0
Rising r = (n : ℕ) → 1 ≤ n → n < r → blog64 (pos n) <ℤ blog64 (pos (suc n))
