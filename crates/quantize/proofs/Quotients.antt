-- n / 65,536 as a float is exact for an n up to 2^53.
use Rattle.std.proofs.Common.{◌≡◌, ℕ, ◌*◌, ◌^◌, ◌≤◌, Bool, true, false, cond, ℤ, pos, negsuc, sym, refl, ap, ◌∙◌, inl, inr, lt_of_lt_of_le, mul_assoc, mul_comm, mul-lt-mul_of_pos_right, mul-pos, one-mul, mul_left_comm, arith, lit<, lit≤, pow_pos}
use lib.Ieee.{Float, nan, inf, fin, binary64, up, down, round, of_int, of_bits, div}
use lib.Ieee.Fits.{down_pos}
use lib.Ieee.Exact.{HasValue, round_exact}
use lib.Ieee.Back.{round_whole}
use lib.Ieee.Scale.{round_same}
use Rattle.std.proofs.lemmas.Bool.{cases_lt, true≢false}
use Rattle.std.specs.Int.{int_max, int_min}
use Rattle.std.proofs.lemmas.Int.{ints, clamps}
use Rattle.std.specs.List.{AllByRecursion}
use Rattle.planes.specs.declared.sampling.ChromaSampling.{ChromaSampling}
use Rattle.quantize.specs.declared.answer.Scales.TheVariants.{Mono, Colour}
use Rattle.logexp.specs.Held.{◌⊕◌, ◌⊖◌, ◌⊗◌}
use Rattle.logexp.specs.LogExp.{bexp64}
use Rattle.tables.specs.Depths.{doublings}
use Rattle.planes.specs.Planes.{monochrome, chroma_u, chroma_v}
use Rattle.quantize.specs.Indexes.{scale_of}
use Rattle.quantize.specs.Answer.{scale_list, scales_of}
use Rattle.quantize.specs.Scale.{kept, quotient, NothingRounded, Exact}

-- the literal 65536.0
two16 : Float
two16 = fin false 1 (pos 16)

literal : of_bits binary64 4679240012837945344 ≡ fin false 1 (pos 16)
unfolding of_bits
literal = refl

whole : (n : ℕ) → n ≤ 2 ^ 53 → HasValue (of_int binary64 (pos n)) false n 1
unfolding of_int
whole n h = round_whole binary64 false n h

-- a quotient by 65,536 of a float that has the value n
divided : (x : Float) (n : ℕ) → HasValue x false n 1 → div binary64 x (fin false 1 (pos 16)) ≡ round binary64 false n 65536
unfolding div
divided nan n v = absurd v
divided (inf s) n v = absurd v
divided (fin true m e) n v = absurd (true≢false v.0)
divided (fin false m e) n v =
    round_same binary64 false (m * up e * 1) (1 * 65536 * down e) n 65536 (mul-pos (lit< tt) (down_pos e)) (lit< tt)
    (let u : m * up e * 1 ≡ n * down e = v.1 in ap (λ (z : ℕ). z * 65536) u ∙ simp (one-mul, mul_assoc, mul_comm, mul_left_comm))

pub quotient_is : (n : ℕ) → n ≤ 2 ^ 53 → div binary64 (of_int binary64 (pos n)) (of_bits binary64 4679240012837945344) ≡ quotient n
unfolding quotient
quotient_is n h = ap (div binary64 (of_int binary64 (pos n))) literal ∙ divided (of_int binary64 (pos n)) n (whole n h)

shift : (n : ℕ) → n * 2 ^ 1074 ≡ n * 2 ^ 1058 * 65536
shift n = sym (mul_assoc n (2 ^ 1058) 65536)

pub nothing_rounded : NothingRounded
unfolding quotient
nothing_rounded n h =
    elim (cases_lt n (2 ^ 53)) [
      | inl less ↦
          round_exact binary64 false n 65536 n 1058 (lit< tt) less
          (lt_of_lt_of_le (mul-lt-mul_of_pos_right less (pow_pos 1058)) (lit≤ tt)) (shift n)
      | inr more ↦
          let e : n ≡ 2 ^ 53 = omega arith in
          round_exact binary64 false n 65536 1 1111 (lit< tt) (lit< tt) (lit< tt) (rw e)
    ]

pub kept_le : (z : ℤ) → kept z ≤ 2 ^ 53
kept_le (pos n) = omega arith
kept_le (negsuc n) = omega arith

-- what `clamp` answers
pub kept_is : (z : ℤ) → int_max (pos 0) (int_min z (pos (2 ^ 53))) ≡ pos (kept z)
kept_is (pos n) = omega (arith, ints, clamps)
kept_is (negsuc n) = omega (arith, ints, clamps)

-- the scale of a plane, whatever its logs
plane_exact : (target q : ℤ) → Exact (scale_of target q)
plane_exact target q =
    let z = bexp64 ((target ⊖ q) ⊗ pos 2 ⊕ doublings 16) in
    (kept z, kept_le z, nothing_rounded (kept z) (kept_le z))

-- all scales of an answer
pub scales_exact : (target y mean : ℤ) (s : ChromaSampling) → AllByRecursion Exact (scale_list (scales_of target y mean s))
scales_exact target y mean s = go (monochrome s)
  where
    go : (b : Bool) → AllByRecursion Exact (scale_list (cond b (Mono (scale_of target y)) (Colour (scale_of target y) (scale_of target (chroma_u y mean s)) (scale_of target (chroma_v y mean s)))))
    go true = (plane_exact target y, tt)
    go false = (plane_exact target y, (plane_exact target (chroma_u y mean s), (plane_exact target (chroma_v y mean s), tt)))
