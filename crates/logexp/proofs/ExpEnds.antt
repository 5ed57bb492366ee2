-- The exponential by its whole part: below 0, from 63 on, and between, and what the calls in it answer.
use Rattle.std.proofs.Common.{◌≡◌, ℕ, ◌-◌, ◌/◌, ◌^◌, ◌<◌, ◌≤◌, cond, ℤ, pos, negsuc, ◌+ℤ◌, ◌-ℤ◌, ◌*ℤ◌, neg_ℤ, nat_abs, ◌≤ℤ◌, ◌<ℤ◌, sym, refl, ap, ◌∙◌, arith, w64, SFits, to_z, of_z, le-ltb, lt-ltb, eq-eqb, ne_eqb}
use Rattle.std.specs.Int.{saturate_to_bits}
use Rattle.std.proofs.lemmas.Int.{ints, to_z-of_z}
use Rattle.logexp.specs.Cordic.{shr}
use Rattle.logexp.specs.Held.{held}
use Rattle.logexp.specs.LogExp.{exp_turns, tail, scaled, rounded, bexp_parts, bexp64}
use Rattle.logexp.specs.declared.exp.Exp.{Exp}

-- held never changes the sign, and reaches no further
pub held_least : (z : ℤ) → pos 0 ≤ℤ z → pos 0 ≤ℤ held z
held_least (pos n) h = omega (arith, ints)
held_least (negsuc n) h = absurd h.le

-- twice w, held, is at least w
held_twice : (w : ℤ) → SFits w64 w → pos 0 ≤ℤ w → w ≤ℤ held (w *ℤ pos 2)
held_twice (pos n) f h = omega (arith, ints)
held_twice (negsuc n) f h = absurd h.le

pub closed_least : (w lo : ℤ) → SFits w64 w → pos 0 ≤ℤ w → neg_ℤ w ≤ℤ lo → pos 0 ≤ℤ held (held (w *ℤ pos 2) +ℤ lo)
closed_least w lo f h g = held_least (held (w *ℤ pos 2) +ℤ lo) (omega (arith, ints, held_twice w f h))

pub scaled_zero : (i : ℕ) (z : ℤ) → z ≡ pos 0 → scaled i z ≡ pos (2 ^ 62)
unfolding scaled
scaled_zero i z e =
    ap (λ b. cond b (pos (2 ^ 62)) (held (held ((exp_turns (z *ℤ pos 32) 34).w *ℤ pos 2) +ℤ tail i (exp_turns (z *ℤ pos 32) 34))))
    (eq-eqb (nat_abs z) 0 (ap nat_abs e))

pub scaled_other : (i : ℕ) (z : ℤ) → (z ≡ pos 0 → ⊥) → scaled i z ≡ held (held ((exp_turns (z *ℤ pos 32) 34).w *ℤ pos 2) +ℤ tail i (exp_turns (z *ℤ pos 32) 34))
unfolding scaled
scaled_other i z n =
    ap (λ b. cond b (pos (2 ^ 62)) (held (held ((exp_turns (z *ℤ pos 32) 34).w *ℤ pos 2) +ℤ tail i (exp_turns (z *ℤ pos 32) 34))))
    (ne_eqb (nat_abs z) 0 (λ e. n (omega (arith, ints))))

pub shr_least : (z : ℤ) (k : ℕ) → pos 0 ≤ℤ z → pos 0 ≤ℤ shr z k
shr_least (pos n) k h = omega (arith, ints)
shr_least (negsuc n) k h = absurd h.le

pub round_least : (w : ℤ) (i : ℕ) → pos 0 ≤ℤ w → pos 0 ≤ℤ shr (shr w (61 - i) +ℤ pos 1) 1
round_least w i h = shr_least (shr w (61 - i) +ℤ pos 1) 1 (omega (arith, ints, shr_least w (61 - i) h))

pub rounded_off : (w : ℤ) (i : ℕ) → i < 62 → rounded w i ≡ shr (shr w (61 - i) +ℤ pos 1) 1
unfolding rounded
rounded_off w i h = ap (λ b. cond b (shr (shr w (61 - i) +ℤ pos 1) 1) w) (lt-ltb i 62 h)

pub rounded_as : (w : ℤ) (i : ℕ) → 62 ≤ i → rounded w i ≡ w
unfolding rounded
rounded_as w i h = ap (λ b. cond b (shr (shr w (61 - i) +ℤ pos 1) 1) w) (le-ltb i 62 h)

parts_mid : (i : ℕ) (z : ℤ) → i < 63 → bexp_parts (pos i) z ≡ rounded (scaled i z) i
unfolding bexp_parts
parts_mid i z h = ap (λ b. cond b (rounded (scaled i z) i) (pos (2 ^ 63 - 1))) (lt-ltb i 63 h)

parts_top : (i : ℕ) (z : ℤ) → 63 ≤ i → bexp_parts (pos i) z ≡ pos (2 ^ 63 - 1)
unfolding bexp_parts
parts_top i z h = ap (λ b. cond b (rounded (scaled i z) i) (pos (2 ^ 63 - 1))) (le-ltb i 63 h)

pub bexp_low : (x : ℤ) → shr x 57 <ℤ pos 0 → bexp64 x ≡ pos 0
unfolding bexp64 bexp_parts
bexp_low (pos n) h = absurd (omega (arith, ints))
bexp_low (negsuc n) h = refl

pub bexp_top : (x : ℤ) → pos 63 ≤ℤ shr x 57 → bexp64 x ≡ pos (2 ^ 63 - 1)
unfolding bexp64
bexp_top (pos n) h = parts_top (n / 2 ^ 57) _ (omega (arith, ints))
bexp_top (negsuc n) h = absurd h.le

-- the whole part i, and what is left
pub bexp_mid : (x : ℤ) (i : ℕ) → shr x 57 ≡ pos i → i < 63 → bexp64 x ≡ rounded (scaled i (x -ℤ shr x 57 *ℤ pos (2 ^ 57))) i
unfolding bexp64
bexp_mid x i e h = ap (λ v. bexp_parts v (x -ℤ shr x 57 *ℤ pos (2 ^ 57))) e ∙ parts_mid i _ h

-- what is left of x is a fraction in Q57
pub left_over : (x : ℤ) → pos 0 ≤ℤ shr x 57 → (pos 0 ≤ℤ (x -ℤ shr x 57 *ℤ pos (2 ^ 57))) × ((x -ℤ shr x 57 *ℤ pos (2 ^ 57)) <ℤ pos (2 ^ 57))
left_over (pos n) h = omega (arith, ints)
left_over (negsuc n) h = absurd h.le

-- ---- what the calls answer, with their arguments as bits

pub rounded_by : (w a r : ℤ) (i : ℕ) → SFits w64 w → SFits w64 a → a ≡ shr (to_z w64 (of_z w64 w)) (61 - i) → r ≡ shr (to_z w64 (of_z w64 a) +ℤ pos 1) 1 → r ≡ shr (shr w (61 - i) +ℤ pos 1) 1
rounded_by w a r i fw fa p q =
    q ∙ ap (λ v. shr (v +ℤ pos 1) 1) (to_z-of_z w64 a fa ∙ p ∙ ap (λ v. shr v (61 - i)) (to_z-of_z w64 w fw))

pub scaled_by : (i : ℕ) (z : ℤ) (e : Exp) (lo m r : ℤ) → SFits w64 z → pos 0 ≤ℤ z → z <ℤ pos (2 ^ 57) → (of_z w64 z ≡ 0 → ⊥) → e ≡ exp_turns (to_z w64 (of_z w64 (to_z w64 (of_z w64 z) *ℤ pos 32))) 34 → SFits w64 e.w → SFits w64 lo → SFits w64 m → lo ≡ tail i e → m ≡ saturate_to_bits 63 (to_z w64 (of_z w64 e.w) *ℤ pos 2) → r ≡ saturate_to_bits 63 (to_z w64 (of_z w64 m) +ℤ to_z w64 (of_z w64 lo)) → (r ≡ scaled i z) × (r ≡ held (held (e.w *ℤ pos 2) +ℤ lo))
scaled_by i z e lo m r fz h g n p fw fl fm q s t =
    let zz : to_z w64 (of_z w64 (to_z w64 (of_z w64 z) *ℤ pos 32)) ≡ z *ℤ pos 32 = omega (arith, ints) in
    let p' : e ≡ exp_turns (z *ℤ pos 32) 34 = p ∙ ap (λ v. exp_turns v 34) zz in
    let s' : m ≡ saturate_to_bits 63 (e.w *ℤ pos 2) = s ∙ ap (λ v. saturate_to_bits 63 (v *ℤ pos 2)) (to_z-of_z w64 e.w fw) in
    let t' : r ≡ saturate_to_bits 63 (m +ℤ lo) = simp to_z-of_z at t in
    let u : r ≡ held (held (e.w *ℤ pos 2) +ℤ lo) = t' ∙ ap (λ v. saturate_to_bits 63 (v +ℤ lo)) s' in
    let n' : z ≡ pos 0 → ⊥ = λ zero_is. n (ap (of_z w64) zero_is) in
    (u ∙ ap (λ v. held (held (e.w *ℤ pos 2) +ℤ v)) q ∙ ap (λ v. held (held (v.w *ℤ pos 2) +ℤ tail i v)) p' ∙ sym (scaled_other i z n'), u)

pub frac_bits : (x p : ℤ) → SFits w64 x → p ≡ shr x 57 → pos 0 ≤ℤ p → (to_z w64 (of_z w64 (to_z w64 (of_z w64 x) -ℤ to_z w64 (of_z w64 (to_z w64 (of_z w64 p) *ℤ pos (2 ^ 57))))) ≡ x -ℤ shr x 57 *ℤ pos (2 ^ 57)) × SFits w64 (p *ℤ pos (2 ^ 57))
frac_bits (negsuc n) p f e h = absurd (omega (arith, ints))
frac_bits (pos n) p f e h = (omega (arith, ints), omega (arith, ints))

pub bexp_by : (x p s r : ℤ) → SFits w64 x → SFits w64 p → SFits w64 s → p ≡ shr (to_z w64 (of_z w64 x)) 57 → pos 0 ≤ℤ p → p <ℤ pos 63 → s ≡ scaled (nat_abs (to_z w64 (of_z w64 p))) (to_z w64 (of_z w64 (to_z w64 (of_z w64 x) -ℤ to_z w64 (of_z w64 (to_z w64 (of_z w64 p) *ℤ pos (2 ^ 57)))))) → r ≡ rounded (to_z w64 (of_z w64 s)) (nat_abs (to_z w64 (of_z w64 p))) → r ≡ bexp64 x
bexp_by x p s r fx fp fs e h g q t =
    let e' : p ≡ shr x 57 = e ∙ ap (λ v. shr v 57) (to_z-of_z w64 x fx) in
    let i : nat_abs (to_z w64 (of_z w64 p)) ≡ nat_abs p = ap nat_abs (to_z-of_z w64 p fp) in
    let q' : s ≡ scaled (nat_abs p) (x -ℤ shr x 57 *ℤ pos (2 ^ 57)) = q ∙ ap (λ v. scaled (nat_abs (to_z w64 (of_z w64 p))) v) (frac_bits x p fx e' h).0 ∙ ap (λ v. scaled v (x -ℤ shr x 57 *ℤ pos (2 ^ 57))) i in
    t ∙ ap (λ v. rounded v (nat_abs (to_z w64 (of_z w64 p)))) (to_z-of_z w64 s fs ∙ q') ∙ ap (rounded (scaled (nat_abs p) (x -ℤ shr x 57 *ℤ pos (2 ^ 57)))) i
    ∙ sym (bexp_mid x (nat_abs p) (omega (arith, ints, e')) (omega (arith, ints)))

pub shr_bits : (x p : ℤ) (k : ℕ) → SFits w64 x → p ≡ shr (to_z w64 (of_z w64 x)) k → p ≡ shr x k
shr_bits x p k f e = e ∙ ap (λ v. shr v k) (to_z-of_z w64 x f)

-- the whole part of x
pub whole_of : (x : ℤ) → ((shr x 57 *ℤ pos (2 ^ 57)) ≤ℤ x) × (x <ℤ ((shr x 57 +ℤ pos 1) *ℤ pos (2 ^ 57)))
whole_of (pos n) = omega (arith, ints)
whole_of (negsuc n) = omega (arith, ints)
