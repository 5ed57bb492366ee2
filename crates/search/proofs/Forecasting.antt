-- The sums of a forecast, over plain numbers.
use Rattle.std.proofs.Common.{◌≡◌, ℕ, ◌^◌, ◌<◌, List, get_or, ℤ, pos, ◌+ℤ◌, ◌*ℤ◌, ap, ◌∙◌, arith, w64, SFits, to_z, of_z}
use Rattle.std.specs.Int.{saturate_to_bits}
use Rattle.std.proofs.lemmas.Int.{ints, to_z-of_z}
use Rattle.flat.specs.Flat.{code_of, log_q_of}
use Rattle.flat.specs.declared.subtype.Subtype.{Subtype}
use Rattle.flat.specs.declared.subtype.Subtype.TheVariants.{I, P, B0, B1}
use Rattle.model.specs.Meaning.{Meaning}
use Rattle.search.specs.Predict.{with_share, forecast}

-- no frames: the sum stays
same_sum : (sum : ℤ) → SFits w64 sum → sum ≡ saturate_to_bits 63 (sum +ℤ pos 0)
same_sum sum f = grind (arith, ints)

pub skipped : {M : Type 0} (meaning : Meaning M) (m : M) (k : Subtype) (n : ℕ) (base sum : ℤ) → SFits w64 sum → n ≡ 0 → to_z w64 (of_z w64 sum) ≡ with_share meaning m k n base sum
unfolding with_share
skipped meaning m k n base sum f e =
    let z : saturate_to_bits 63 (pos 0 *ℤ pos (meaning.count m (code_of k) (log_q_of k base))) ≡ pos 0 = ap pos (omega arith) in
    rw e (rw z (to_z-of_z w64 sum f ∙ same_sum sum f))

pub share_is : {M : Type 0} (meaning : Meaning M) (m : M) (k : Subtype) (n e : ℕ) (sum base q b x r : ℤ) → n < 2 ^ 32 → SFits w64 sum → SFits w64 base → SFits w64 q → SFits w64 b → SFits w64 x → SFits w64 r
    → e ≡ code_of k → q ≡ log_q_of k (to_z w64 (of_z w64 base)) → b ≡ pos (meaning.count m e (to_z w64 (of_z w64 q))) → x ≡ saturate_to_bits 63 (to_z w64 n *ℤ to_z w64 (of_z w64 b)) → r ≡ saturate_to_bits 63 (to_z w64 (of_z w64 sum) +ℤ to_z w64 (of_z w64 x))
    → to_z w64 (of_z w64 r) ≡ with_share meaning m k n base sum
unfolding with_share
share_is meaning m k n e sum base q b x r small fs fd fq fb fx fr ee eq eb ex er =
    let z0 = to_z-of_z w64 sum fs in let z1 = to_z-of_z w64 base fd in let z2 = to_z-of_z w64 q fq in let z3 = to_z-of_z w64 b fb in let z4 = to_z-of_z w64 r fr in let z5 = to_z-of_z w64 x fx in
    let z6 : to_z w64 n ≡ pos n = omega (arith, ints) in
    let q1 : q ≡ log_q_of k base = rw z1 at eq in
    let b1 : b ≡ pos (meaning.count m (code_of k) (log_q_of k base)) = rw (z2, q1, ee) at eb in
    let x1 : x ≡ saturate_to_bits 63 (pos n *ℤ pos (meaning.count m (code_of k) (log_q_of k base))) = rw (z6, z3, b1) at ex in
    let r1 : r ≡ saturate_to_bits 63 (sum +ℤ saturate_to_bits 63 (pos n *ℤ pos (meaning.count m (code_of k) (log_q_of k base)))) = rw (z0, z5, x1) at er in
    z4 ∙ r1

-- the shares of the coded frames, and the shows
pub forecast_is : {M : Type 0} (meaning : Meaning M) (m : M) (kinds : List ℕ) (base coded s r : ℤ)
    → coded ≡ with_share meaning m B1 (get_or kinds 3 0) base (with_share meaning m B0 (get_or kinds 2 0) base (with_share meaning m P (get_or kinds 1 0) base (with_share meaning m I (get_or kinds 0 0) base (pos 0))))
    → get_or kinds 4 0 < 2 ^ 32 → SFits w64 coded → SFits w64 s → SFits w64 r
    → s ≡ saturate_to_bits 63 (to_z w64 (get_or kinds 4 0) *ℤ pos 24) → r ≡ saturate_to_bits 63 (to_z w64 (of_z w64 coded) +ℤ to_z w64 (of_z w64 s)) → to_z w64 (of_z w64 r) ≡ forecast meaning m kinds base
unfolding forecast
forecast_is meaning m kinds base coded s r ec small fc fs fr es er =
    let z : to_z w64 (get_or kinds 4 0) ≡ pos (get_or kinds 4 0) = omega (arith, ints) in
    let s1 : s ≡ saturate_to_bits 63 (pos (get_or kinds 4 0) *ℤ pos 24) = rw z at es in
    let r1 : r ≡ saturate_to_bits 63 (coded +ℤ s) = rw (to_z-of_z w64 coded fc, to_z-of_z w64 s fs) at er in
    to_z-of_z w64 r fr ∙ rw (r1, s1, ec)
