-- The laws of all numbers below 2^13 from the test of the octave: a number N with its top digit at place i
-- has the same fraction as n = N * 2^(12 - i), and what the test says of n leaves the rounding of N its half.
use Rattle.std.proofs.Common.{◌≡◌, ℕ, zero, suc, ◌+◌, ◌-◌, ◌*◌, ◌/◌, ◌^◌, ◌<◌, ◌≤◌, ℤ, pos, negsuc, ◌+ℤ◌, ◌-ℤ◌, ◌*ℤ◌, nat_abs, ◌≤ℤ◌, ◌<ℤ◌, sym, refl, ap, ◌∙◌, subst, inl, inr, mul-le-mul_right, suc-mul, arith, le-ltb}
use Rattle.std.proofs.lemmas.Int.{ints}
use Rattle.std.proofs.lemmas.Nat.{pow_pos, pow-add, le-div, div_below}
use Rattle.std.proofs.lemmas.Bool.{cases_lt, cases_eq}
use Rattle.logexp.specs.Cordic.{shr}
use Rattle.logexp.specs.Held.{held}
use Rattle.logexp.specs.LogExp.{exp_turns, scaled, rounded, bexp64, log_turns, moved, blog_parts, ipart_of, blog64, computing}
use Rattle.logexp.proofs.ExpTurns.{tail_none, exp_turns_in}
use Rattle.logexp.proofs.ExpEnds.{bexp_mid, scaled_other, rounded_off}
use Rattle.logexp.proofs.LogTurns.{parts_whole, parts_other, top, blog_is, below_pow}
use Rattle.logexp.proofs.LogBand.{z_fine}
use Rattle.logexp.proofs.Quick.{quick_z, quick_z_is}
use Rattle.logexp.proofs.QuickExp.{quick_w, quick_w_is}
use Rattle.logexp.proofs.ExactPowers.{exact_power, exact_log}
use Rattle.logexp_laws.specs.Undone.{Undone, Rising}
use Rattle.logexp_laws.proofs.Octave.{part, power, octave, part_zero, is_good_at, rises_by}

fraction_zero : shr ((log_turns (2 ^ 61) 65).z +ℤ pos 8) 4 ≡ pos 0
unfolding computing
fraction_zero = refl

whole_and : (i : ℕ) (z : ℤ) → z ≡ pos 0 → pos (i * 2 ^ 57) ≡ pos (i * 2 ^ 57) +ℤ z
whole_and i z e = omega (arith, ints)

parts_any : (i w : ℕ) → blog_parts i w ≡ pos (i * 2 ^ 57) +ℤ shr ((log_turns w 65).z +ℤ pos 8) 4
parts_any i w =
    elim (cases_eq w (2 ^ 61)) [
      | inl e ↦
          let z : shr ((log_turns w 65).z +ℤ pos 8) 4 ≡ pos 0 = ap (λ (v : ℕ). shr ((log_turns v 65).z +ℤ pos 8) 4) e ∙ fraction_zero in
          parts_whole i w e ∙ whole_and i _ z
      | inr n ↦ parts_other i w n
    ]

place_is : (i n : ℕ) → 0 < n → n < 2 ^ 63 → 2 ^ i ≤ n → n < 2 ^ (i + 1) → ipart_of n ≡ i
place_is i n p m low high =
    let t = top n p m in
    let a : 2 ^ ipart_of n < 2 ^ (i + 1) = omega (arith, t.1) in
    let b : 2 ^ i < 2 ^ (ipart_of n + 1) = omega (arith, t.2) in
    omega (arith, below_pow (ipart_of n) (i + 1) a, below_pow i (ipart_of n + 1) b)

scale_of : (i : ℕ) → i ≤ 12 → 2 ^ (61 - i) ≡ 2 ^ (12 - i) * 2 ^ 49
scale_of i h =
    let e : (12 - i) + 49 ≡ 61 - i = omega arith in ap (λ (j : ℕ). 2 ^ j) (sym e) ∙ pow-add 2 (12 - i) 49

moved_is : (i n : ℕ) → i ≤ 12 → moved i n ≡ (n * 2 ^ (12 - i)) * 2 ^ 49
unfolding moved
moved_is i n h = rw (le-ltb 61 i (omega arith), scale_of i h) (omega arith)

-- n * 2^(12 - i) lies in the octave, as far from its start as n does from 2^i
inside : (n i d : ℕ) → i ≤ 12 → 2 ^ i + d ≤ n → n < 2 ^ (i + 1) → (octave + d * 2 ^ (12 - i) ≤ n * 2 ^ (12 - i)) × (n * 2 ^ (12 - i) + 2 ^ (12 - i) ≤ 2 * octave)
inside n i d h low high =
    let e : i + (12 - i) ≡ 12 = omega arith in
    let o : 2 ^ i * 2 ^ (12 - i) ≡ octave = sym (pow-add 2 i (12 - i)) ∙ ap (λ (j : ℕ). 2 ^ j) e in
    let u : 2 ^ (i + 1) * 2 ^ (12 - i) ≡ 2 * (2 ^ i * 2 ^ (12 - i)) = ap (λ (j : ℕ). j * 2 ^ (12 - i)) (pow-add 2 i 1) ∙ omega arith in
    let a = mul-le-mul_right (2 ^ (12 - i)) low in
    let b = mul-le-mul_right (2 ^ (12 - i)) high in
    let c = suc-mul n (2 ^ (12 - i)) in (omega arith, omega arith)

shifted : (z : ℤ) (q : ℕ) → z +ℤ pos (2 ^ 63) ≡ pos q → negsuc 7 ≤ℤ z → shr (z +ℤ pos 8) 4 ≡ pos ((q + 8 - 2 ^ 63) / 16)
shifted z q e h =
    let s : z +ℤ pos 8 ≡ pos (q + 8 - 2 ^ 63) = omega (arith, ints) in ap (λ (v : ℤ). shr v 4) s

-- the fraction by the definition's turns
part_is : (n : ℕ) → octave ≤ n → n < 2 * octave → shr ((log_turns (n * 2 ^ 49) 65).z +ℤ pos 8) 4 ≡ part n
unfolding part
part_is n h g =
    shifted (log_turns (n * 2 ^ 49) 65).z (quick_z (n * 2 ^ 49)) (quick_z_is (n * 2 ^ 49) (omega arith) (omega arith)) (z_fine (n * 2 ^ 49) (omega arith) (omega arith)).least

log_is : (i n : ℕ) → i ≤ 12 → 2 ^ i ≤ n → n < 2 ^ (i + 1) → n < 2 ^ 63 → blog64 (pos n) ≡ pos (i * 2 ^ 57) +ℤ part (n * 2 ^ (12 - i))
log_is i n h low high m =
    let p : 0 < n = omega (arith, pow_pos i) in
    let r = inside n i 0 h (omega arith) high in
    blog_is (pos n) n refl p
    ∙ ap (λ (j : ℕ). blog_parts j (moved j n)) (place_is i n p m low high)
    ∙ ap (blog_parts i) (moved_is i n h)
    ∙ parts_any i ((n * 2 ^ (12 - i)) * 2 ^ 49)
    ∙ ap (λ (v : ℤ). pos (i * 2 ^ 57) +ℤ v) (part_is (n * 2 ^ (12 - i)) (omega (arith, r)) (omega (arith, r, pow_pos (12 - i))))

-- the power of the whole part i and the fraction f
power_is : (i f : ℕ) → i ≤ 12 → 0 < f → f < 2 ^ 57 → bexp64 (pos (i * 2 ^ 57 + f)) ≡ shr (shr (held (held ((exp_turns (pos f *ℤ pos 32) 34).w *ℤ pos 2) +ℤ pos 0)) (61 - i) +ℤ pos 1) 1
power_is i f h g m =
    let x : ℤ = pos (i * 2 ^ 57 + f) in
    let s : shr x 57 ≡ pos i = omega (arith, ints) in
    let l : x -ℤ shr x 57 *ℤ pos (2 ^ 57) ≡ pos f = omega (arith, ints) in
    let n : pos f ≡ pos 0 → ⊥ = λ e. omega (arith, ints) in
    let t = tail_none i (exp_turns (pos f *ℤ pos 32) 34) (omega arith) in
    bexp_mid x i s (omega arith)
    ∙ ap (λ (v : ℤ). rounded (scaled i v) i) l
    ∙ rounded_off (scaled i (pos f)) i (omega arith)
    ∙ ap (λ (v : ℤ). shr (shr v (61 - i) +ℤ pos 1) 1) (scaled_other i (pos f) n ∙ ap (λ (v : ℤ). held (held ((exp_turns (pos f *ℤ pos 32) 34).w *ℤ pos 2) +ℤ v)) t)

-- the rounding of 2 e at place i, where n = N * 2^(12 - i)
halves : (e i m : ℕ) → i ≤ 12 → (suc m * 2 ^ (12 - i)) * 2 ^ 49 ≤ e + 2 ^ 48 → e < (suc m * 2 ^ (12 - i)) * 2 ^ 49 + 2 ^ 48 → (e * 2 / 2 ^ (61 - i) + 1) / 2 ≡ suc m
halves e i m h low high =
    let p = pow_pos (12 - i) in
    let s = suc-mul m (2 ^ (12 - i)) in
    let d : 0 < 2 ^ (12 - i) * 2 ^ 49 = omega arith in
    let a : (2 * m + 1) * (2 ^ (12 - i) * 2 ^ 49) ≤ e * 2 = omega arith in
    let b : e * 2 < (2 * m + 3) * (2 ^ (12 - i) * 2 ^ 49) = omega arith in
    rw (scale_of i h) (omega (arith, le-div (2 * m + 1) (e * 2) (2 ^ (12 - i) * 2 ^ 49) d a, div_below (e * 2) (2 ^ (12 - i) * 2 ^ 49) (2 * m + 3) d b))

round_to : (w : ℤ) (i m : ℕ) → i ≤ 12 → pos 0 ≤ℤ w → suc m * 2 ^ (12 - i) < 2 ^ 13 → (suc m * 2 ^ (12 - i)) * 2 ^ 49 ≤ nat_abs w + 2 ^ 48 → nat_abs w < (suc m * 2 ^ (12 - i)) * 2 ^ 49 + 2 ^ 48 → shr (shr (held (held (w *ℤ pos 2) +ℤ pos 0)) (61 - i) +ℤ pos 1) 1 ≡ pos (suc m)
round_to (negsuc e) i m h p n low high = absurd p.le
round_to (pos e) i m h p n low high =
    let l : held (held (pos e *ℤ pos 2) +ℤ pos 0) ≡ pos (e * 2) = omega (arith, ints) in
    ap (λ (v : ℤ). shr (shr v (61 - i) +ℤ pos 1) 1) l ∙ ap pos (halves e i m h low high)

-- ---- the laws

-- the place of a number below 2^13, and how far it lies from its octave's start
record Placed (n : ℕ) : Type 0 where
  pub at : ℕ
  pub small : at ≤ 12
  pub low : 2 ^ at ≤ n
  pub high : n < 2 ^ (at + 1)

placed : (n : ℕ) → 1 ≤ n → n < 8192 → Placed n
placed n h g =
    let t = top n h (omega arith) in
    let s : 2 ^ ipart_of n < 2 ^ 13 = omega (arith, t.1) in
    record { at = ipart_of n; small = omega (arith, below_pow (ipart_of n) 13 s); low = t.1; high = t.2 }

undone_at : (n i : ℕ) → i ≤ 12 → 2 ^ i < n → n < 2 ^ (i + 1) → n < 8192 → bexp64 (blog64 (pos n)) ≡ pos n
unfolding power
undone_at zero i h low high m = absurd (omega arith)
undone_at (suc k) i h low high m =
    let p = pow_pos (12 - i) in
    let r = inside (suc k) i 1 h (omega arith) high in
    let n : ℕ = suc k * 2 ^ (12 - i) in
    let from : octave < n = omega arith in
    let to : n < 2 * octave = omega arith in
    let g = is_good_at n from to in
    let f : ℕ = nat_abs (part n) in
    let e : part n ≡ pos f = omega (arith, ints, g.least) in
    let l : blog64 (pos (suc k)) ≡ pos (i * 2 ^ 57 + f) = log_is i (suc k) h (omega arith) high (omega arith) ∙ ap (λ (v : ℤ). pos (i * 2 ^ 57) +ℤ v) e in
    let f₁ : 0 < f = omega (arith, ints, g.least) in
    let f₂ : f < 2 ^ 57 = omega (arith, ints, g.least, g.most) in
    let w = (exp_turns_in (pos f *ℤ pos 32) 34 (omega (arith, ints)) (omega arith)).w_least in
    let v : nat_abs (exp_turns (pos f *ℤ pos 32) 34).w ≡ quick_w (f * 32) = ap nat_abs (quick_w_is (f * 32) (omega arith)) in
    let low' = subst (λ (q : ℤ). n * 2 ^ 49 ≤ power q + 2 ^ 48) e g.low in
    let high' = subst (λ (q : ℤ). power q < n * 2 ^ 49 + 2 ^ 48) e g.high in
    ap bexp64 l ∙ power_is i f h f₁ f₂ ∙ round_to (exp_turns (pos f *ℤ pos 32) 34).w i k h w to (omega (arith, low')) (omega (arith, high'))

pub undone : Undone 8192
undone n h g =
    let q = placed n h g in
    elim (cases_eq n (2 ^ q.at)) [
      | inl e ↦
          let i = q.at in
          let l = exact_log (pos n) (blog64 (pos n)) refl q.at (omega (arith, q.small)) (ap pos e) in
          exact_power (blog64 (pos n)) _ refl q.at (omega (arith, q.small)) l ∙ ap pos (sym e)
      | inr d ↦ undone_at n q.at q.small (omega (arith, q.low)) q.high g
    ]

part_below : (n : ℕ) → octave ≤ n → n < 2 * octave → part n <ℤ pos (2 ^ 57)
part_below n h g =
    elim (cases_eq n octave) [
      | inl e ↦ omega (arith, ints, ap part e ∙ part_zero)
      | inr d ↦ (is_good_at n (omega arith) g).most
    ]

next_in : (n i : ℕ) → i ≤ 12 → 2 ^ i ≤ n → suc n < 2 ^ (i + 1) → n < 8192 → blog64 (pos n) <ℤ blog64 (pos (suc n))
next_in n i h low high m =
    let p = pow_pos (12 - i) in
    let r = inside n i 0 h (omega arith) (omega arith) in
    let s = inside (suc n) i 0 h (omega arith) high in
    let e : n * 2 ^ (12 - i) + suc (2 ^ (12 - i) - 1) ≡ suc n * 2 ^ (12 - i) = omega (arith, suc-mul n (2 ^ (12 - i))) in
    let t = rises_by (n * 2 ^ (12 - i)) (2 ^ (12 - i) - 1) (omega arith) (omega arith) in
    let u = subst (λ (j : ℕ). part (n * 2 ^ (12 - i)) <ℤ part j) e t in
    omega (arith, ints, log_is i n h low (omega arith) (omega arith), log_is i (suc n) h (omega arith) high (omega arith))

next_octave : (n i : ℕ) → i ≤ 12 → 2 ^ i ≤ n → n < 2 ^ (i + 1) → 2 ^ (i + 1) ≤ suc n → n < 8192 → blog64 (pos n) <ℤ blog64 (pos (suc n))
next_octave n i h low high end m =
    let p = pow_pos (12 - i) in
    let r = inside n i 0 h (omega arith) high in
    let e : suc n ≡ 2 ^ (i + 1) = omega arith in
    let l = exact_log (pos (suc n)) (blog64 (pos (suc n))) refl (i + 1) (omega arith) (ap pos e) in
    omega (arith, ints, log_is i n h low high (omega arith), part_below (n * 2 ^ (12 - i)) (omega arith) (omega arith))

pub rising : Rising 8192
rising n h g =
    let q = placed n h g in
    elim (cases_lt (suc n) (2 ^ (q.at + 1))) [
      | inl d ↦ next_in n q.at q.small q.low d g
      | inr d ↦ next_octave n q.at q.small q.low q.high d g
    ]
