-- The exponential's turns and its low digits keep to their bounds, and what the calls in them answer.
use Rattle.std.proofs.Common.{◌≡◌, ℕ, zero, suc, ◌+◌, ◌-◌, ◌*◌, ◌/◌, ◌^◌, ◌<◌, ◌≤◌, max, true, false, cond, eqb, ◌⊎◌, ℤ, pos, negsuc, ◌+ℤ◌, ◌-ℤ◌, ◌*ℤ◌, neg_ℤ, nat_abs, ◌≤ℤ◌, ◌<ℤ◌, sym, refl, ap, ◌∙◌, subst, inl, inr, add-suc, mul-le-mul_right, suc-mul, div-le_self, add-one, arith, shr-shr, w64, SFits, to_z, of_z, le-ltb, lt-ltb, eq-eqb, ne_eqb}
use lib.Pow.{shr_mono}
use Rattle.std.proofs.lemmas.Int.{ints, to_z-of_z}
use Rattle.logexp.specs.Cordic.{steps, atanhs, step, atanh, along, shr}
use Rattle.logexp.specs.LogExp.{factor, turned, exp_turn, exp_turns, tail_turn, tail_turns, tail}
use Rattle.logexp.specs.Bounds.{z_bound, w_bound, ExpIn, TailIn}
use Rattle.logexp.specs.declared.exp.Exp.{Exp}
use Rattle.logexp.specs.declared.exp.Tail.{Tail}
use Rattle.logexp.proofs.TableRules.{below, step_small, atanh_small}

pub along_neg : (s a : ℤ) → s <ℤ pos 0 → along s a ≡ neg_ℤ a
unfolding along
along_neg (pos n) a h = absurd (omega (arith, ints))
along_neg (negsuc n) a h = refl

pub along_pos : (s a : ℤ) → pos 0 ≤ℤ s → along s a ≡ a
unfolding along
along_pos (pos n) a h = refl
along_pos (negsuc n) a h = absurd h.le

pub factor_is : (k : ℕ) → (factor k ≡ 1) ⊎ (factor k ≡ 2)
unfolding factor
factor_is k = elim (eqb (step (k + 1)) (step k)) as (λ t. (◌≡◌ {A = ℕ} (cond t 1 2) 1) ⊎ (◌≡◌ {A = ℕ} (cond t 1 2) 2)) [ true ↦ inl refl | false ↦ inr refl ]

-- toward zero and at most past it
toward : (z : ℤ) (a b : ℕ) → nat_abs z ≤ b → nat_abs (z -ℤ along z (pos a)) ≤ max a (b - a)
unfolding along
toward (pos n) a b h = omega (arith, ints)
toward (negsuc n) a b h = omega (arith, ints)

times : (z : ℤ) (f b : ℕ) → (f ≡ 1) ⊎ (f ≡ 2) → nat_abs z ≤ b → nat_abs (z *ℤ pos f) ≤ f * b
times z f b (inl e) h = rw e (omega (arith, ints))
times z f b (inr e) h = rw e (omega (arith, ints))

pub turned_in : (k : ℕ) (z : ℤ) → nat_abs z ≤ z_bound k → nat_abs (turned k z) ≤ z_bound (suc k)
unfolding turned z_bound
turned_in k z h = times (z -ℤ along z (pos (atanh (step k)))) (factor k) _ (factor_is k) (toward z (atanh (step k)) (z_bound k) h)

pub z_bound_small : (k : ℕ) → k < 65 → z_bound k < 2 ^ 63
unfolding z_bound factor atanh atanhs step steps
z_bound_small = below z_bound (2 ^ 63) 65 refl

pub w_bound_small : (k : ℕ) → k < 35 → w_bound k < 2 ^ 63
unfolding w_bound step steps
w_bound_small = below w_bound (2 ^ 63) 35 refl

-- w is not negative, and grows at most by its part
pub grown : (w s : ℤ) (b k : ℕ) → pos 0 ≤ℤ w → w ≤ℤ pos b → (pos 0 ≤ℤ (w +ℤ along s (shr w k))) × ((w +ℤ along s (shr w k)) ≤ℤ pos (b + b / 2 ^ k))
unfolding along
grown (negsuc n) s b k h g = absurd h.le
grown (pos n) (pos x) b k h g =
    let le : n ≤ b = omega (arith, ints) in omega (arith, ints, shr_mono k le)
grown (pos n) (negsuc x) b k h g =
    let le : n ≤ b = omega (arith, ints) in omega (arith, ints, div-le_self n (2 ^ k))

-- an argument goes to its bits and back
pub along_bits : (s a : ℤ) → SFits w64 s → SFits w64 a → along (to_z w64 (of_z w64 s)) (to_z w64 (of_z w64 a)) ≡ along s a
along_bits s a f g = simp to_z-of_z

factor_one : (k : ℕ) → step (k + 1) ≡ step k → factor k ≡ 1
unfolding factor
factor_one k e = ap (λ t. cond t 1 2) (eq-eqb (step (k + 1)) (step k) e)

factor_two : (k : ℕ) → (step (k + 1) ≡ step k → ⊥) → factor k ≡ 2
unfolding factor
factor_two k n = ap (λ t. cond t 1 2) (ne_eqb (step (k + 1)) (step k) n)

pub turned_once : (k : ℕ) (z : ℤ) → step (k + 1) ≡ step k → turned k z ≡ z -ℤ along z (pos (atanh (step k)))
unfolding turned
turned_once k z e = rw (factor_one k e) (omega (arith, ints))

pub turned_twice : (k : ℕ) (z : ℤ) → (step (k + 1) ≡ step k → ⊥) → turned k z ≡ (z -ℤ along z (pos (atanh (step k)))) *ℤ pos 2
unfolding turned
turned_twice k z n = rw (factor_two k n)

pub left_small : (k : ℕ) (z : ℤ) → k < 64 → nat_abs z ≤ z_bound k → nat_abs (z -ℤ along z (pos (atanh (step k)))) < 2 ^ 63
left_small k z h g = omega (arith, toward z (atanh (step k)) (z_bound k) g, atanh_small (step k), z_bound_small k (omega arith))

pub turned_small : (k : ℕ) (z : ℤ) → k < 64 → nat_abs z ≤ z_bound k → nat_abs (turned k z) < 2 ^ 63
turned_small k z h g = omega (arith, turned_in k z g, z_bound_small (suc k) (omega arith))

-- what `along` answers in `turned`
pub turned_by : (k i : ℕ) (z a r : ℤ) → SFits w64 z → i ≡ step k → a ≡ pos (atanh i) → r ≡ along (to_z w64 (of_z w64 z)) (to_z w64 (of_z w64 a)) → r ≡ along z (pos (atanh (step k)))
turned_by k i z a r f e g h =
    let fits : SFits w64 a = omega (arith, ints, atanh_small i) in
    h ∙ along_bits z a f fits ∙ ap (along z) g ∙ ap (λ j. along z (pos (atanh j))) e

-- what `along` answers of a shift
pub along_of : (z w a r : ℤ) (s t : ℕ) → SFits w64 z → SFits w64 w → SFits w64 a → s ≡ t → a ≡ shr (to_z w64 (of_z w64 w)) s → r ≡ along (to_z w64 (of_z w64 z)) (to_z w64 (of_z w64 a)) → r ≡ along z (shr w t)
along_of z w a r s t fz fw fa e g h =
    h ∙ along_bits z a fz fa ∙ ap (along z) (g ∙ ap (λ v. shr v s) (to_z-of_z w64 w fw) ∙ ap (shr w) e)

pub turned_bits : (k : ℕ) (z r : ℤ) → SFits w64 z → r ≡ turned k (to_z w64 (of_z w64 z)) → r ≡ turned k z
turned_bits k z r f h = simp to_z-of_z at h

pub same_exp : (a b : Exp) → a.w ≡ b.w → a.z ≡ b.z → a ≡ b
same_exp a b p q = λ i. record { w = p i; z = q i }

pub same_tail : (a b : Tail) → a.lo ≡ b.lo → a.z ≡ b.z → a ≡ b
same_tail a b p q = λ i. record { lo = p i; z = q i }

pub w_next : (k : ℕ) (e : Exp) → k < 34 → ExpIn k e → (pos 0 ≤ℤ (e.w +ℤ along e.z (shr e.w (step k + 1)))) × ((e.w +ℤ along e.z (shr e.w (step k + 1))) ≤ℤ pos (w_bound (suc k)))
unfolding w_bound
w_next k e h g = grown e.w e.z (w_bound k) (step k + 1) g.w_least g.w_most

pub exp_next : (k : ℕ) (e : Exp) → k < 34 → ExpIn k e → ExpIn (suc k) (exp_turn k e)
unfolding exp_turn
exp_next k e h g = record { w_least = (w_next k e h g).0; w_most = (w_next k e h g).1; z_in = turned_in k e.z g.z_in }

pub exp_turns_in : (z : ℤ) (k : ℕ) → nat_abs z ≤ 2 ^ 62 → k ≤ 34 → ExpIn k (exp_turns z k)
unfolding exp_turns w_bound z_bound
exp_turns_in z zero g h = record { w_least = omega (arith, ints); w_most = omega (arith, ints); z_in = g }
exp_turns_in z (suc k) g h = exp_next k (exp_turns z k) h (exp_turns_in z k g (omega arith))

pub exp_turns_more : (z : ℤ) (k : ℕ) (e r : Exp) → e ≡ exp_turns z k → r ≡ exp_turn k e → r ≡ exp_turns z (k + 1)
unfolding exp_turns
exp_turns_more z k e r p q = rw add-one (q ∙ ap (exp_turn k) p)

pub exp_inv : (z : ℤ) (k : ℕ) (e : Exp) → SFits w64 z → nat_abs z ≤ 2 ^ 62 → k ≤ 34 → e ≡ exp_turns (to_z w64 (of_z w64 z)) k → ExpIn k e
exp_inv z k e f g h p =
    let q : e ≡ exp_turns z k = simp to_z-of_z at p in rw q (exp_turns_in z k g h)

-- ---- the tail

tail_part : (n s : ℕ) → 32 ≤ s → n / 2 ^ s ≤ n / 2 ^ 32
tail_part n s h =
    let e : 32 + (s - 32) ≡ s = omega arith in
    subst (λ (j : ℕ). n / 2 ^ j ≤ n / 2 ^ 32) e (rw (← shr-shr n 32 (s - 32)) (div-le_self (n / 2 ^ 32) (2 ^ (s - 32))))

-- from the 34th turn on the steps are past 31
late : ℕ → ℕ
late k = 62 - step (34 + k)

late_in : (k : ℕ) → k < 30 → late k < 31
unfolding late step steps
late_in = below late 31 30 refl

pub step_late : (k : ℕ) → k < 30 → 32 ≤ step (34 + k)
unfolding late
step_late k h = omega (arith, late_in k h, step_small (34 + k) (omega arith))

lo_grown : (w z lo : ℤ) (k s : ℕ) → pos 0 ≤ℤ w → 32 ≤ s → nat_abs lo ≤ k * (nat_abs w / 2 ^ 32) → nat_abs (lo +ℤ along z (shr w s)) ≤ suc k * (nat_abs w / 2 ^ 32)
unfolding along
lo_grown (negsuc n) z lo k s h g b = absurd h.le
lo_grown (pos n) (pos y) lo k s h g b = omega (arith, ints, tail_part n s g, suc-mul k (n / 2 ^ 32))
lo_grown (pos n) (negsuc y) lo k s h g b = omega (arith, ints, tail_part n s g, suc-mul k (n / 2 ^ 32))

pub tail_next : (w : ℤ) (k : ℕ) (t : Tail) → k < 30 → TailIn w k t → TailIn w (suc k) (tail_turn w (34 + k) t)
unfolding tail_turn
tail_next w k t h g = record {
  w_least = g.w_least;
  w_most = g.w_most;
  lo_in = lo_grown w t.z t.lo k (step (34 + k)) g.w_least (step_late k h) g.lo_in;
  z_in = rw add-suc (turned_in (34 + k) t.z g.z_in);
}

pub lo_small : (w : ℤ) (k : ℕ) (t : Tail) → k ≤ 30 → TailIn w k t → nat_abs t.lo ≤ nat_abs w
lo_small w k t h g = omega (arith, g.lo_in, mul-le-mul_right (nat_abs w / 2 ^ 32) h)

pub tail_turns_in : (e : Exp) (k : ℕ) → k ≤ 30 → ExpIn 34 e → TailIn e.w k (tail_turns e k)
unfolding tail_turns
tail_turns_in e zero h g = record {
  w_least = g.w_least;
  w_most = omega (arith, ints, g.w_most, w_bound_small 34 (omega arith));
  lo_in = omega arith;
  z_in = g.z_in;
}
tail_turns_in e (suc k) h g = tail_next e.w k (tail_turns e k) h (tail_turns_in e k (omega arith) g)

pub tail_turns_more : (e : Exp) (k : ℕ) (t r : Tail) → t ≡ tail_turns e k → r ≡ tail_turn e.w (34 + k) t → r ≡ tail_turns e (k + 1)
unfolding tail_turns
tail_turns_more e k t r p q = rw add-one (q ∙ ap (tail_turn e.w (34 + k)) p)

pub exp_done : (z : ℤ) (k : ℕ) (e : Exp) → SFits w64 z → nat_abs z ≤ 2 ^ 62 → k ≡ 34 → e ≡ exp_turns (to_z w64 (of_z w64 z)) k → (e ≡ exp_turns z 34) × ExpIn 34 e
exp_done z k e f g h p =
    let q : e ≡ exp_turns z k = simp to_z-of_z at p in
    let r : e ≡ exp_turns z 34 = q ∙ ap (exp_turns z) h in (r, rw r (exp_turns_in z 34 g (omega arith)))

pub tail_inv : (e : Exp) (k : ℕ) (t : Tail) → SFits w64 e.w → k ≤ 30 → ExpIn 34 e → t ≡ tail_turns e k → TailIn (to_z w64 (of_z w64 e.w)) k t
tail_inv e k t f h g p = rw (to_z-of_z w64 e.w f) (rw p (tail_turns_in e k h g))

pub tail_again : (e : Exp) (k : ℕ) (t r : Tail) → SFits w64 e.w → t ≡ tail_turns e k → r ≡ tail_turn (to_z w64 (of_z w64 e.w)) (34 + k) t → r ≡ tail_turns e (k + 1)
tail_again e k t r f p q = tail_turns_more e k t r p (q ∙ ap (λ v. tail_turn v (34 + k) t) (to_z-of_z w64 e.w f))

pub tail_none : (i : ℕ) (e : Exp) → i ≤ 30 → tail i e ≡ pos 0
unfolding tail
tail_none i e h = ap (λ b. cond b (tail_turns e 30).lo (pos 0)) (le-ltb 30 i h)

pub tail_done : (i k : ℕ) (e : Exp) (t : Tail) → 30 < i → k ≡ 30 → t ≡ tail_turns e k → t.lo ≡ tail i e
unfolding tail
tail_done i k e t h g p =
    ap (λ (v : Tail). v.lo) (p ∙ ap (tail_turns e) g) ∙ sym (ap (λ b. cond b (tail_turns e 30).lo (pos 0)) (lt-ltb 30 i h))
