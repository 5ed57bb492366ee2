-- The logarithm lies between the whole numbers around it: what the turns reach, put through the rounding.
use Rattle.std.proofs.Common.{◌≡◌, ℕ, ◌+◌, ◌*◌, ◌^◌, ◌<◌, ◌≤◌, ℤ, pos, negsuc, ◌+ℤ◌, ◌≤ℤ◌, inl, inr, arith}
use Rattle.std.proofs.lemmas.Int.{ints}
use Rattle.std.proofs.lemmas.Bool.Decides.{eqb_tells}
use Rattle.logexp.specs.Cordic.{shr}
use Rattle.logexp.specs.LogExp.{log_turns, blog_parts}
use Rattle.logexp.proofs.LogTurns.{parts_whole, parts_other, below_pow}
use Rattle.logexp.proofs.LogBand.{Fine, z_fine}

shifted : (v : ℤ) → pos 0 ≤ℤ v → v ≤ℤ pos (2 ^ 61 + 15) → (pos 0 ≤ℤ shr v 4) × (shr v 4 ≤ℤ pos (2 ^ 57))
shifted (pos n) h g = omega (arith, ints)
shifted (negsuc n) h g = absurd h.le

sixteenth_fine : (z : ℤ) → Fine z → (pos 0 ≤ℤ shr (z +ℤ pos 8) 4) × (shr (z +ℤ pos 8) 4 ≤ℤ pos (2 ^ 57))
sixteenth_fine z f = shifted (z +ℤ pos 8) (omega (arith, ints, f.least)) (omega (arith, ints, f.most))

pub parts_band : (i w : ℕ) → 2 ^ 61 ≤ w → w < 2 ^ 62 → (pos (i * 2 ^ 57) ≤ℤ blog_parts i w) × (blog_parts i w ≤ℤ pos ((i + 1) * 2 ^ 57))
parts_band i w h g =
    elim (eqb_tells w (2 ^ 61)) [
      | inl t ↦ omega (arith, ints, parts_whole i w t.1)
      | inr t ↦ omega (arith, ints, parts_other i w t.1, sixteenth_fine (log_turns w 65).z (z_fine w h g))
    ]

-- n has its top digit at place i, and lies from 2^m to 2^(m + 1)
pub log_band : (i w m n : ℕ) → 2 ^ 61 ≤ w → w < 2 ^ 62 → 2 ^ i ≤ n → n < 2 ^ (i + 1) → 2 ^ m ≤ n → n < 2 ^ (m + 1) → (pos (m * 2 ^ 57) ≤ℤ blog_parts i w) × (blog_parts i w ≤ℤ pos ((m + 1) * 2 ^ 57))
log_band i w m n h g low high from to =
    let a : 2 ^ i < 2 ^ (m + 1) = omega arith in
    let b : 2 ^ m < 2 ^ (i + 1) = omega arith in
    let e : m ≡ i = omega (arith, below_pow i (m + 1) a, below_pow m (i + 1) b) in rw e (parts_band i w h g)
