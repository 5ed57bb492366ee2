-- The bits that the frames ahead have to share.
use Rattle.std.specs.Prelude.{ℕ, ◌+◌, ℤ, pos, int_div}
use Rattle.logexp.specs.Held.{◌⊕◌, ◌⊖◌, ◌⊗◌}
use Rattle.outlook.specs.declared.counts.Counts.{Counts}

-- what the frames ahead make good of the bias, which is spread over the coded frames and 100 more; the division drops its fraction towards zero
abbrev pub bias_share : ℤ → ℕ → ℕ → ℤ
bias_share bias coded frames = int_div bias (pos (coded + 100)) ⊗ pos frames

-- fullness less target, the share of the bias, and a credit for each shown unit ahead
unfoldable pub rate_total : ℤ → ℤ → ℤ → ℤ → ℕ → Counts → ℤ
rate_total fullness target credit bias coded ahead =
    fullness ⊖ target ⊕ bias_share bias coded ahead.frames ⊕ pos ahead.shown ⊗ credit
