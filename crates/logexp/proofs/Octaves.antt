-- A number, its logarithm and the power of that stay in one octave: from the bands of both functions.
use Rattle.std.proofs.Common.{◌≡◌, ℕ, ◌+◌, ◌*◌, ◌^◌, ◌<◌, ◌≤◌, ℤ, pos, negsuc, ◌≤ℤ◌, refl, ap, inl, inr, arith, pow_mono}
use Rattle.std.proofs.lemmas.Int.{ints}
use Rattle.std.proofs.lemmas.Nat.{pow_pos, pow-add}
use Rattle.std.proofs.lemmas.Bool.{cases_lt}
use Rattle.logexp.specs.LogExp.{bexp64, blog64, moved, ipart_of}
use Rattle.logexp.specs.Laws.{OctaveKept}
use Rattle.logexp.proofs.ExpEnds.{bexp_top}
use Rattle.logexp.proofs.ExpLaws.{power_band}
use Rattle.logexp.proofs.ExactPowers.{exact_power}
use Rattle.logexp.proofs.LogTurns.{top, blog_is, moved_high, moved_low}
use Rattle.logexp.proofs.LogLaws.{log_band}

moved_in : (i n : ℕ) → i ≤ 62 → 2 ^ i ≤ n → n < 2 ^ (i + 1) → (2 ^ 61 ≤ moved i n) × (moved i n < 2 ^ 62)
moved_in i n h low high =
    elim (cases_lt 61 i) [
      | inl a ↦ let v = moved_high i n a h low high in omega (arith, v.0, v.1, v.2)
      | inr a ↦ let v = moved_low i n a low high in omega (arith, v.0, v.1, v.2)
    ]

blog_band : (n m : ℕ) → m ≤ 62 → 2 ^ m ≤ n → n < 2 ^ (m + 1) → (pos (m * 2 ^ 57) ≤ℤ blog64 (pos n)) × (blog64 (pos n) ≤ℤ pos ((m + 1) * 2 ^ 57))
blog_band n m h low high =
    let p : 0 < n = omega (arith, pow_pos m) in
    let k : m + 1 ≤ 63 = omega arith in
    let t = top n p (omega (arith, pow_mono k)) in
    let v = moved_in (ipart_of n) n t.0 t.1 t.2 in
    rw (blog_is (pos n) n refl p) (log_band (ipart_of n) (moved (ipart_of n) n) m n v.0 v.1 t.1 t.2 low high)

-- the power of the whole number m + 1
at_end : (k m : ℕ) → m ≤ 62 → k ≡ (m + 1) * 2 ^ 57 → (pos (2 ^ m) ≤ℤ bexp64 (pos k)) × (bexp64 (pos k) ≤ℤ pos (2 ^ (m + 1)))
at_end k m h e =
    elim (cases_lt m 62) [
      | inl a ↦
          let x = exact_power (pos k) (bexp64 (pos k)) refl (m + 1) (omega arith) (ap pos e) in
          omega (arith, ints, x, pow-add 2 m 1)
      | inr a ↦
          let i : m ≡ 62 = omega arith in
          let x = bexp_top (pos k) (omega (arith, ints)) in
          rw i (omega (arith, ints, x))
    ]

-- the power of a logarithm from m up to m + 1, that one too
closed_band : (x : ℤ) (m : ℕ) → m ≤ 62 → pos (m * 2 ^ 57) ≤ℤ x → x ≤ℤ pos ((m + 1) * 2 ^ 57) → (pos (2 ^ m) ≤ℤ bexp64 x) × (bexp64 x ≤ℤ pos (2 ^ (m + 1)))
closed_band (negsuc k) m h low high = absurd low.le
closed_band (pos k) m h low high =
    elim (cases_lt k ((m + 1) * 2 ^ 57)) [
      | inl a ↦ power_band (pos k) (bexp64 (pos k)) refl m h low (omega (arith, ints))
      | inr a ↦ at_end k m h (omega (arith, ints))
    ]

pub octave_kept : OctaveKept
octave_kept n m h low high = let b = blog_band n m h low high in closed_band (blog64 (pos n)) m h b.0 b.1
