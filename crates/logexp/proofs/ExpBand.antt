-- 2^62 times the power of two of a fraction is at least 2^62, by the test of `Walks` over the 34 turns and
-- the 30 turns of the low digits; without the low digits at most 2^31 is wanting.
use Rattle.std.proofs.Common.{◌≡◌, ℕ, zero, suc, ◌+◌, ◌-◌, ◌*◌, ◌/◌, ◌^◌, ◌≤◌, Bool, true, false, ◌⊎◌, ℤ, pos, negsuc, ◌+ℤ◌, ◌-ℤ◌, ◌*ℤ◌, neg_ℤ, nat_abs, ◌≤ℤ◌, ◌<ℤ◌, refl, ap, ◌∙◌, subst, inl, inr, arith}
use Rattle.std.proofs.lemmas.Int.{ints}
use Rattle.std.proofs.lemmas.Nat.{shr_le}
use borrow.Author.Tests.{clash}
use Rattle.logexp.specs.Cordic.{step, along, shr}
use Rattle.logexp.specs.Held.{held}
use Rattle.logexp.specs.LogExp.{exp_turn, exp_turns, tail_turn, tail_turns, computing}
use Rattle.logexp.specs.Bounds.{ExpIn, TailIn}
use Rattle.logexp.specs.declared.exp.Exp.{Exp}
use Rattle.logexp.specs.declared.exp.Tail.{Tail}
use Rattle.logexp.proofs.ExpTurns.{grown, exp_turns_in, tail_turns_in}
use Rattle.logexp.proofs.Ratios.{shrink}
use Rattle.logexp.proofs.Walks.{Parts, walk, fall, covers, Gentle, Reached, covered}

-- ---- the parts of the first 34 turns

abbrev power_part : Parts
power_part k v = shr v (step k + 1)

power_least : (v : ℤ) (s : ℕ) → pos 0 ≤ℤ v → pos 0 ≤ℤ shr v s
power_least (pos n) s h = omega (arith, ints)
power_least (negsuc n) s h = absurd h.le

power_less : (v : ℤ) (s : ℕ) → pos 0 ≤ℤ v → pos 0 ≤ℤ (v +ℤ neg_ℤ (shr v s))
power_less (pos n) s h = omega (arith, ints, shr_le n s)
power_less (negsuc n) s h = absurd h.le

power_more : (u v : ℤ) (s : ℕ) → pos 0 ≤ℤ u → pos 0 ≤ℤ v → u ≤ℤ v → (u +ℤ neg_ℤ (shr u s)) ≤ℤ (v +ℤ neg_ℤ (shr v s))
power_more (pos m) (pos n) s h g le =
    let l : m ≤ n = omega (arith, ints) in omega (arith, ints, shrink m n s l)
power_more (pos m) (negsuc n) s h g le = absurd g.le
power_more (negsuc m) v s h g le = absurd h.le

power_next : (v s : ℤ) (k : ℕ) → pos 0 ≤ℤ v → pos 0 ≤ℤ (v +ℤ along s (shr v k))
power_next v s k h = (grown v s (nat_abs v) k h (omega (arith, ints))).0

power_gentle : Gentle (λ v. pos 0 ≤ℤ v) power_part
power_gentle = record {
  part = λ k v. power_least v (step k + 1);
  next = λ k v s. power_next v s (step k + 1);
  less = λ k v. power_less v (step k + 1);
  more = λ k u v. power_more u v (step k + 1);
}

-- ---- the parts of the low digits, which are those of one power w

abbrev low_part : ℤ → Parts
low_part w k v = shr w (step k)

low_gentle : (w : ℤ) → pos 0 ≤ℤ w → Gentle (λ _. Unit) (low_part w)
low_gentle w h = record {
  part = λ k v o. power_least w (step k) h;
  next = λ k v s o. tt;
  less = λ k v o. tt;
  more = λ k u v o p le. omega (arith, ints);
}

-- ---- the definitions' turns as walks

turns_walk : (z : ℤ) (n k : ℕ) → walk power_part n k (exp_turns z k) ≡ exp_turns z (k + n)
unfolding walk exp_turns exp_turn
turns_walk z zero k = let e : k ≡ k + 0 = omega arith in ap (exp_turns z) e
turns_walk z (suc n) k = (let e : suc k + n ≡ k + suc n = omega arith in turns_walk z n (suc k) ∙ ap (exp_turns z) e)

abbrev pair : Tail → Exp
pair t = record { w = t.lo; z = t.z }

low_walk : (e : Exp) (n k : ℕ) → walk (low_part e.w) n (34 + k) (pair (tail_turns e k)) ≡ pair (tail_turns e (k + n))
unfolding walk tail_turns tail_turn
low_walk e zero k = let p : k ≡ k + 0 = omega arith in ap (λ j. pair (tail_turns e j)) p
low_walk e (suc n) k =
    let s : suc (34 + k) ≡ 34 + suc k = omega arith in
    let p : suc k + n ≡ k + suc n = omega arith in
    ap (λ j. walk (low_part e.w) n j (pair (tail_turns e (suc k)))) s ∙ low_walk e n (suc k) ∙ ap (λ j. pair (tail_turns e j)) p

-- ---- the tests

none : ℤ → ℤ → ℤ → Bool
none a b v = false

abbrev most : ℤ
most = pos (2 ^ 62 - 32)

short_computed : covers power_part (pos (2 ^ 61 - 2 ^ 30)) none 34 0 (pos 32) most (pos 0x26A3D0E401DD846D) ≡ true
unfolding covers fall none computing
short_computed = refl

-- what the low digits must reach at least, and the test of them
wanting : ℤ → ℤ
wanting w = pos (2 ^ 62) -ℤ held (w *ℤ pos 2)

low_test : ℤ → ℤ → ℤ → Bool
low_test a b w = covers (low_part w) (wanting w) none 30 34 a b (pos 0)

full_computed : covers power_part (pos (2 ^ 61 + 2 ^ 34)) low_test 34 0 (pos 32) most (pos 0x26A3D0E401DD846D) ≡ true
unfolding covers fall none low_test wanting computing
full_computed = refl

-- ---- what they give of the definitions

-- the high digits alone
pub short : (z : ℤ) → pos 32 ≤ℤ z → z ≤ℤ most → pos (2 ^ 61 - 2 ^ 30) ≤ℤ (exp_turns z 34).w
unfolding exp_turns none
short z h g =
    let c = covered power_gentle (pos (2 ^ 61 - 2 ^ 30)) none 34 0 (exp_turns z 0) (pos 32) most (omega (arith, ints)) h g short_computed in
    elim (subst (λ (e : Exp). (pos (2 ^ 61 - 2 ^ 30) ≤ℤ e.w) ⊎ Reached none e) (turns_walk z 34 0) c) [
      | inl p ↦ p
      | inr r ↦ absurd (clash r.told)
    ]

-- a power well above 2^61 has enough, whatever its low digits are
ample : (w lo : ℤ) → pos (2 ^ 61 + 2 ^ 34) ≤ℤ w → w <ℤ pos (2 ^ 63) → nat_abs lo ≤ 30 * (nat_abs w / 2 ^ 32) → pos (2 ^ 62) ≤ℤ (held (w *ℤ pos 2) +ℤ lo)
ample (pos n) lo h g b = omega (arith, ints)
ample (negsuc n) lo h g b = absurd h.le

low_enough : (e : Exp) → pos 0 ≤ℤ e.w → Reached low_test e → pos (2 ^ 62) ≤ℤ (held (e.w *ℤ pos 2) +ℤ (tail_turns e 30).lo)
unfolding low_test wanting none tail_turns
low_enough e h r =
    let c = covered (low_gentle e.w h) (wanting e.w) none 30 34 (pair (tail_turns e 0)) r.from r.to tt r.low r.high r.told in
    elim (subst (λ (t : Exp). (wanting e.w ≤ℤ t.w) ⊎ Reached none t) (low_walk e 30 0) c) [
      | inl p ↦ omega (arith, ints)
      | inr q ↦ absurd (clash q.told)
    ]

-- with the low digits
pub full : (z : ℤ) → pos 32 ≤ℤ z → z ≤ℤ most → pos (2 ^ 62) ≤ℤ (held ((exp_turns z 34).w *ℤ pos 2) +ℤ (tail_turns (exp_turns z 34) 30).lo)
unfolding exp_turns
full z h g =
    let e : Exp = exp_turns z 34 in
    let i : ExpIn 34 e = exp_turns_in z 34 (omega (arith, ints)) (omega arith) in
    let l : TailIn e.w 30 (tail_turns e 30) = tail_turns_in e 30 (omega arith) i in
    let c = covered power_gentle (pos (2 ^ 61 + 2 ^ 34)) low_test 34 0 (exp_turns z 0) (pos 32) most (omega (arith, ints)) h g full_computed in
    elim (subst (λ (t : Exp). (pos (2 ^ 61 + 2 ^ 34) ≤ℤ t.w) ⊎ Reached low_test t) (turns_walk z 34 0) c) [
      | inl p ↦ ample e.w (tail_turns e 30).lo p l.w_most l.lo_in
      | inr r ↦ low_enough e i.w_least r
    ]
