-- The logarithm's z stays between 0 and 1, up to the rounding, by a test that computes. The test `covers`
-- takes a bound a of u / v and a bound b of v / u, is content where z stays between the ends whatever the
-- turns that are left do, and else asks for either sign of y that the bounds allow; c and d are at most u
-- and v, and say how much the turns' roundings count. The numbers next to either end, where they decide, are
-- computed one by one.
use Rattle.std.proofs.Common.{◌≡◌, ℕ, zero, suc, ◌+◌, ◌-◌, ◌*◌, ◌/◌, ◌^◌, ◌<◌, ◌≤◌, max, Bool, true, ◌&&◌, ltb, leb, ℤ, pos, negsuc, ◌+ℤ◌, ◌-ℤ◌, neg_ℤ, ◌≤ℤ◌, ◌<ℤ◌, refl, ap, ◌∙◌, subst, inl, inr, mul-le-mul_right, arith}
use lib.Signed.{le_z}
use Rattle.std.proofs.lemmas.Int.{ints}
use Rattle.std.proofs.lemmas.Bool.{and_parts, leb-true, ltb-true, cases_lt}
use Rattle.logexp.specs.Cordic.{step, atanh}
use Rattle.logexp.specs.LogExp.{log_turn, log_turns, computing}
use Rattle.logexp.specs.declared.log.Log.{Log}
use Rattle.logexp.proofs.TableRules.{all, all_at}
use Rattle.logexp.proofs.ExpTurns.{along_neg, along_pos}
use Rattle.logexp.proofs.Walks.{or_else, or_else_cases, sign_of, le_of}
use Rattle.logexp.proofs.Ratios.{unit, next}
use Rattle.logexp.proofs.LogRatios.{low, low_least, left_of, grown_to, more, less, Ratio, step_above, step_below}

-- what turn k adds to z or takes from it, and n turns from turn k on together
abbrev angle : ℕ → ℕ
angle k = atanh (step k) / 2 ^ step k

unfoldable rest : ℕ → ℕ → ℕ
rest zero k = 0
rest (suc n) k = angle k + rest n (suc k)

unfoldable pub walk : ℕ → ℕ → Log → Log
walk zero k l = l
walk (suc n) k l = walk n (suc k) (log_turn (step k) l)

pub turns_walk : (w n k : ℕ) → walk n k (log_turns w k) ≡ log_turns w (k + n)
unfolding walk log_turns
turns_walk w zero k = let e : k ≡ k + 0 = omega arith in ap (log_turns w) e
turns_walk w (suc n) k = let e : suc k + n ≡ k + suc n = omega arith in turns_walk w n (suc k) ∙ ap (log_turns w) e

-- z rounds to a number from 0 to 1
pub record Fine (z : ℤ) : Type 0 where
  pub least : negsuc 7 ≤ℤ z
  pub most : z ≤ℤ pos (2 ^ 61 + 7)

-- it does so with r more or less
abbrev fine : ℤ → ℕ → Bool
fine z r = le_z (negsuc 7) (z -ℤ pos r) && le_z (z +ℤ pos r) (pos (2 ^ 61 + 7))

unfoldable covers : ℕ → ℕ → ℕ → ℕ → ℕ → ℕ → ℤ → Bool
covers zero k a b c d z = fine z 0
covers (suc n) k a b c d z =
    or_else (fine z (rest (suc n) k)) (λ _.
    or_else (leb unit a) (λ _. covers n (suc k) (more k d a) (less k c (max b unit)) (grown_to k c) (left_of k d) (z +ℤ neg_ℤ (pos (angle k))))
    && or_else (ltb unit b) (λ _. covers n (suc k) (less k d (max a unit)) (more k c b) (left_of k c) (grown_to k d) (z +ℤ pos (angle k))))

-- z goes no further than the turns' constants together
within : (n k : ℕ) (l : Log) → (l.z ≤ℤ ((walk n k l).z +ℤ pos (rest n k))) × ((walk n k l).z ≤ℤ (l.z +ℤ pos (rest n k)))
unfolding walk rest log_turn
within zero k l = omega (arith, ints)
within (suc n) k l = let h = within n (suc k) (log_turn (step k) l) in
    elim (sign_of l.y) [
      | inl s ↦ omega (arith, ints, along_neg l.y (pos (angle k)) s)
      | inr s ↦ omega (arith, ints, along_pos l.y (pos (angle k)) s)
    ]

fine_holds : (z r : ℤ) (d : ℕ) → z ≤ℤ (r +ℤ pos d) → r ≤ℤ (z +ℤ pos d) → fine z d ≡ true → Fine r
fine_holds z r d h g t =
    let p = and_parts (le_z (negsuc 7) (z -ℤ pos d)) (le_z (z +ℤ pos d) (pos (2 ^ 61 + 7))) t in
    let a = le_of (negsuc 7) (z -ℤ pos d) p.0 in
    let b = le_of (z +ℤ pos d) (pos (2 ^ 61 + 7)) p.1 in
    record { least = omega (arith, ints); most = omega (arith, ints) }

fine_now : (z : ℤ) → fine z 0 ≡ true → Fine z
fine_now z t = fine_holds z z 0 (omega (arith, ints)) (omega (arith, ints)) t

-- the bounds exclude a sign of y
not_below : (k a b c d : ℕ) (l : Log) → unit ≤ a → l.y <ℤ pos 0 → Ratio k a b c d l → ⊥
not_below k a b c d l h s q = omega (arith, ints, q.sum, q.dif, q.above, mul-le-mul_right q.v h)

not_above : (k a b c d : ℕ) (l : Log) → k < 66 → unit < b → pos 0 ≤ℤ l.y → Ratio k a b c d l → ⊥
not_above k a b c d l g h s q =
    let m : suc unit * q.u ≤ b * q.u = mul-le-mul_right q.u h in
    omega (arith, ints, q.sum, q.dif, q.below, q.low_u, low_least k g)

covered : (n k a b c d : ℕ) (l : Log) → k + n ≤ 65 → Ratio k a b c d l → covers n k a b c d l.z ≡ true → Fine (walk n k l).z
unfolding covers walk log_turn
covered zero k a b c d l h q t = fine_now l.z t
covered (suc n) k a b c d l h q t =
    let i : ℕ = step k in
    let z : ℤ = l.z in
    let down : Unit {0} → Bool = λ _. covers n (suc k) (more k d a) (less k c (max b unit)) (grown_to k c) (left_of k d) (z +ℤ neg_ℤ (pos (angle k))) in
    let up : Unit {0} → Bool = λ _. covers n (suc k) (less k d (max a unit)) (more k c b) (left_of k c) (grown_to k d) (z +ℤ pos (angle k)) in
    elim (or_else_cases (fine z (rest (suc n) k)) (λ _. or_else (leb unit a) down && or_else (ltb unit b) up) t) [
      | inl f ↦ fine_holds z _ (rest (suc n) k) (within (suc n) k l).0 (within (suc n) k l).1 f
      | inr f ↦
          let both = and_parts (or_else (leb unit a) down) (or_else (ltb unit b) up) f in
          elim (sign_of l.y) [
            | inl s ↦
                elim (or_else_cases (leb unit a) down both.0) [
                  | inl e ↦ absurd (not_below k a b c d l (leb-true unit a e) s q)
                  | inr e ↦ covered n (suc k) _ _ _ _ (log_turn i l) (omega arith) (step_below k a b c d l (omega arith) s q) (rw (along_neg l.y (pos (angle k)) s) e)
                ]
            | inr s ↦
                elim (or_else_cases (ltb unit b) up both.1) [
                  | inl e ↦ absurd (not_above k a b c d l (omega arith) (ltb-true unit b e) s q)
                  | inr e ↦ covered n (suc k) _ _ _ _ (log_turn i l) (omega arith) (step_above k a b c d l (omega arith) s q) (rw (along_pos l.y (pos (angle k)) s) e)
                ]
          ]
    ]

-- ---- the tests

abbrev first : ℕ
first = unit + 2 ^ 15

abbrev last : ℕ
last = 2 ^ 129 / (2 ^ 62 - 512)

middle_computed : covers 65 0 first last (2 ^ 62) (2 ^ 62) (pos 0) ≡ true
unfolding covers rest next computing
middle_computed = refl

low_end_computed : all (λ d. fine (log_turns (2 ^ 61 + d) 65).z 0) 256 ≡ true
unfolding computing
low_end_computed = refl

high_end_computed : all (λ d. fine (log_turns (2 ^ 62 - 1 - d) 65).z 0) 512 ≡ true
unfolding computing
high_end_computed = refl

-- ---- what they give

starts : (w : ℕ) → 2 ^ 61 + 256 ≤ w → w + 512 ≤ 2 ^ 62 → Ratio 0 first last (2 ^ 62) (2 ^ 62) (log_turns w 0)
unfolding log_turns low
starts w h g = record {
  u = 2 * w;
  v = 2 ^ 62;
  sum = omega (arith, ints);
  dif = omega (arith, ints);
  low_u = omega arith;
  low_v = omega arith;
  above = omega arith;
  below = omega arith;
  at_u = omega arith;
  at_v = omega arith;
}

middle : (w : ℕ) → 2 ^ 61 + 256 ≤ w → w + 512 ≤ 2 ^ 62 → Fine (log_turns w 65).z
unfolding log_turns
middle w h g =
    subst (λ (l : Log). Fine l.z) (turns_walk w 65 0) (covered 65 0 first last (2 ^ 62) (2 ^ 62) (log_turns w 0) (omega arith) (starts w h g) middle_computed)

low_end : (w : ℕ) → 2 ^ 61 ≤ w → w < 2 ^ 61 + 256 → Fine (log_turns w 65).z
low_end w h g =
    let e : 2 ^ 61 + (w - 2 ^ 61) ≡ w = omega arith in
    let t = all_at (λ d. fine (log_turns (2 ^ 61 + d) 65).z 0) 256 low_end_computed (w - 2 ^ 61) (omega arith) in
    subst (λ (n : ℕ). Fine (log_turns n 65).z) e (fine_now _ t)

high_end : (w : ℕ) → 2 ^ 62 < w + 512 → w < 2 ^ 62 → Fine (log_turns w 65).z
high_end w h g =
    let e : 2 ^ 62 - 1 - (2 ^ 62 - 1 - w) ≡ w = omega arith in
    let t = all_at (λ d. fine (log_turns (2 ^ 62 - 1 - d) 65).z 0) 512 high_end_computed (2 ^ 62 - 1 - w) (omega arith) in
    subst (λ (n : ℕ). Fine (log_turns n 65).z) e (fine_now _ t)

pub z_fine : (w : ℕ) → 2 ^ 61 ≤ w → w < 2 ^ 62 → Fine (log_turns w 65).z
z_fine w h g =
    elim (cases_lt w (2 ^ 61 + 256)) [
      | inl a ↦ low_end w h a
      | inr a ↦
          elim (cases_lt (2 ^ 62) (w + 512)) [
            | inl b ↦ high_end w b g
            | inr b ↦ middle w a b
          ]
    ]
