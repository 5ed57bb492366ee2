-- The logarithm's turns keep to their bounds; the top digit's place; what the calls answer.
use Rattle.std.proofs.Common.{◌≡◌, ℕ, zero, suc, ◌+◌, ◌-◌, ◌*◌, ◌/◌, ◌%◌, ◌^◌, ◌<◌, ◌≤◌, cond, ℤ, pos, negsuc, ◌+ℤ◌, ◌-ℤ◌, neg_ℤ, nat_abs, ◌≤ℤ◌, ◌<ℤ◌, sym, refl, ap, ◌∙◌, subst, inl, inr, le_refl, mul-le-mul_right, div-le_self, add-one, arith, pow_mono, shr-shr, w64, SFits, to_z, of_z, le-ltb, lt-ltb, eq-eqb, ne_eqb}
use Rattle.std.proofs.lemmas.Nat.{shl_whole, shl_below, pow-add, leading_top}
use Rattle.std.proofs.lemmas.Bool.Decides.{eqb_tells, leb_tells}
use lib.Count.{count_leading_zeros}
use lib.Pow.{shr_mono}
use Rattle.std.proofs.lemmas.Int.{ints}
use Rattle.logexp.specs.Cordic.{steps, atanhs, step, atanh, along, shr}
use Rattle.logexp.specs.LogExp.{log_turn, log_turns, moved, blog_parts, ipart_of, blog64}
use Rattle.logexp.specs.Bounds.{x_fall, log_bound, LogIn}
use Rattle.logexp.specs.declared.log.Log.{Log}
use Rattle.logexp.proofs.TableRules.{below, atanh_small}
use Rattle.logexp.proofs.ExpTurns.{along_of, along_pos, along_neg}

pub half : (n i : ℕ) → n / 2 ^ (i + 1) ≤ n / 2
half n i =
    let e : 1 + i ≡ i + 1 = omega arith in
    subst (λ (j : ℕ). n / 2 ^ j ≤ n / 2) e (rw (← shr-shr n 1 i) (div-le_self (n / 2) (2 ^ i)))

pub x_fall_small : (k : ℕ) → k < 66 → x_fall k < 2 ^ 62
unfolding x_fall step steps
x_fall_small = below x_fall (2 ^ 62) 66 refl

pub log_bound_small : (k : ℕ) → k < 66 → log_bound k < 2 ^ 63 - 8
unfolding log_bound step steps atanh atanhs
log_bound_small = below log_bound (2 ^ 63 - 8) 66 refl

x_next : (x y : ℤ) (s : ℕ) → nat_abs y ≤ 3 * 2 ^ 60 → ((x -ℤ along y (shr y s)) ≤ℤ x) × (x ≤ℤ ((x -ℤ along y (shr y s)) +ℤ pos (3 * 2 ^ 60 / 2 ^ s + 1)))
unfolding along
x_next x (pos n) s h = let g : n ≤ 3 * 2 ^ 60 = omega (arith, ints) in omega (arith, ints, shr_mono s g)
x_next x (negsuc n) s h = let g : n ≤ 3 * 2 ^ 60 = omega (arith, ints) in omega (arith, ints, shr_mono s g)

y_next : (x y : ℤ) (i : ℕ) → pos 0 ≤ℤ x → x ≤ℤ pos (3 * 2 ^ 61) → nat_abs y ≤ 3 * 2 ^ 60 → nat_abs (y -ℤ along y (shr x (i + 1))) ≤ 3 * 2 ^ 60
unfolding along
y_next (negsuc m) y i h g b = absurd h.le
y_next (pos m) (pos n) i h g b = omega (arith, ints, half m i)
y_next (pos m) (negsuc n) i h g b = omega (arith, ints, half m i)

z_next : (z y c : ℤ) (a b : ℕ) → nat_abs (z -ℤ c) ≤ b → nat_abs ((z +ℤ along y (pos a)) -ℤ c) ≤ b + a
unfolding along
z_next z (pos n) c a b h = omega (arith, ints)
z_next z (negsuc n) c a b h = omega (arith, ints)

pub x_positive : (k : ℕ) (l : Log) → k < 66 → LogIn k l → pos 0 ≤ℤ l.x
x_positive k l h g = omega (arith, ints, g.x_least, x_fall_small k h)

pub log_next : (k : ℕ) (l : Log) → k < 65 → LogIn k l → LogIn (suc k) (log_turn (step k) l)
unfolding log_turn x_fall log_bound
log_next k l h g = record {
  x_least = omega (arith, ints, g.x_least, x_next l.x l.y (step k + 1) g.y_in);
  x_most = omega (arith, ints, g.x_most, x_next l.x l.y (step k + 1) g.y_in);
  y_in = y_next l.x l.y (step k) (x_positive k l (omega arith) g) g.x_most g.y_in;
  z_in = omega (arith, ints, g.z_in, z_next l.z l.y (pos 0) (atanh (step k) / 2 ^ step k) (log_bound k) (omega (arith, ints, g.z_in)));
}

pub log_turns_in : (w k : ℕ) → 2 ^ 61 ≤ w → w < 2 ^ 62 → k ≤ 65 → LogIn k (log_turns w k)
unfolding log_turns x_fall log_bound
log_turns_in w zero h g b = record { x_least = omega (arith, ints); x_most = omega (arith, ints); y_in = omega (arith, ints); z_in = omega (arith, ints) }
log_turns_in w (suc k) h g b = log_next k (log_turns w k) b (log_turns_in w k h g (omega arith))

-- the first two turns go up and then down, whatever w is
abbrev pub middle : ℕ
middle = 1955347738814569577

two_turns : (y : ℤ) (v a b : ℕ) → pos 0 ≤ℤ y → (y -ℤ pos v) <ℤ pos 0 → ((pos 0 +ℤ along y (pos a)) +ℤ along (y -ℤ along y (pos v)) (pos b)) ≡ pos a -ℤ pos b
two_turns y v a b h g =
    rw (along_pos y (pos a) h, along_pos y (pos v) h, along_neg (y -ℤ pos v) (pos b) g) (omega (arith, ints))

two : (w : ℕ) → 2 ^ 61 ≤ w → w < 2 ^ 62 → (log_turns w 2).z ≡ pos middle
unfolding log_turns log_turn step steps atanh atanhs
two w h g =
    two_turns (pos w -ℤ pos (2 ^ 61)) ((w + 2 ^ 61) / 2) 3654674702153732340 1699326963339162763 (omega (arith, ints)) (omega (arith, ints))

far : (w j : ℕ) → 2 ^ 61 ≤ w → w < 2 ^ 62 → (nat_abs ((log_turns w (suc (suc j))).z -ℤ pos middle) + log_bound 2) ≤ log_bound (suc (suc j))
unfolding log_turns log_turn log_bound
far w zero h g = omega (arith, ints, two w h g)
far w (suc j) h g =
    let l : Log = log_turns w (suc (suc j)) in
    omega (arith, far w j h g, z_next l.z l.y (pos middle) (atanh (step (suc (suc j))) / 2 ^ step (suc (suc j))) _ (le_refl _))

-- the turns after the second together
abbrev pub spread : ℕ
spread = 2085490272886857785

reach : (n : ℕ) → n + log_bound 2 ≤ log_bound 65 → n ≤ spread
unfolding log_bound step steps atanh atanhs
reach n h = omega arith

pub z_near : (w : ℕ) → 2 ^ 61 ≤ w → w < 2 ^ 62 → nat_abs ((log_turns w 65).z -ℤ pos middle) ≤ spread
z_near w h g = reach _ (far w 63 h g)

sixteenth : (v : ℤ) → neg_ℤ (pos (2 ^ 58)) ≤ℤ v → v <ℤ pos (2 ^ 62) → (neg_ℤ (pos (2 ^ 54)) ≤ℤ shr v 4) × (shr v 4 <ℤ pos (2 ^ 58))
sixteenth (pos n) h g = omega (arith, ints)
sixteenth (negsuc n) h g = omega (arith, ints)

-- the fraction is past -1 and below 2
pub fraction_in : (w : ℕ) → 2 ^ 61 ≤ w → w < 2 ^ 62 → (neg_ℤ (pos (2 ^ 54)) ≤ℤ shr ((log_turns w 65).z +ℤ pos 8) 4) × (shr ((log_turns w 65).z +ℤ pos 8) 4 <ℤ pos (2 ^ 58))
fraction_in w h g =
    sixteenth ((log_turns w 65).z +ℤ pos 8) (omega (arith, ints, z_near w h g)) (omega (arith, ints, z_near w h g))

pub parts_whole : (i w : ℕ) → w ≡ 2 ^ 61 → blog_parts i w ≡ pos (i * 2 ^ 57)
unfolding blog_parts
parts_whole i w e =
    ap (λ b. cond b (pos (i * 2 ^ 57)) (pos (i * 2 ^ 57) +ℤ shr ((log_turns w 65).z +ℤ pos 8) 4)) (eq-eqb w (2 ^ 61) e)

pub parts_other : (i w : ℕ) → (w ≡ 2 ^ 61 → ⊥) → blog_parts i w ≡ pos (i * 2 ^ 57) +ℤ shr ((log_turns w 65).z +ℤ pos 8) 4
unfolding blog_parts
parts_other i w n =
    ap (λ b. cond b (pos (i * 2 ^ 57)) (pos (i * 2 ^ 57) +ℤ shr ((log_turns w 65).z +ℤ pos 8) 4)) (ne_eqb w (2 ^ 61) n)

pub parts_most : (i w : ℕ) → 2 ^ 61 ≤ w → w < 2 ^ 62 → blog_parts i w <ℤ pos ((i + 2) * 2 ^ 57)
parts_most i w h g =
    elim (eqb_tells w (2 ^ 61)) [
      | inl t ↦ omega (arith, ints, parts_whole i w t.1)
      | inr t ↦ omega (arith, ints, parts_other i w t.1, fraction_in w h g)
    ]

pos_of : (i : ℕ) → (i ≡ 0 → ⊥) → 0 < i
pos_of i n = omega arith

pub parts_least : (i w : ℕ) → 2 ^ 61 ≤ w → w < 2 ^ 62 → (i ≡ 0 → w ≡ 2 ^ 61) → pos 0 ≤ℤ blog_parts i w
parts_least i w h g one =
    elim (eqb_tells w (2 ^ 61)) [
      | inl t ↦ omega (arith, ints, parts_whole i w t.1)
      | inr t ↦ omega (arith, ints, pos_of i (λ e. t.1 (one e)), parts_other i w t.1, fraction_in w h g)
    ]

-- ---- the top digit's place

pub moved_high : (i n : ℕ) → 61 < i → i ≤ 62 → 2 ^ i ≤ n → n < 2 ^ (i + 1) → (n / 2 ^ (i - 61) ≡ moved i n) × (2 ^ 61 ≤ n / 2 ^ (i - 61)) × (n / 2 ^ (i - 61) < 2 ^ 62)
unfolding moved
moved_high i n h g low high =
    let e : i ≡ 62 = omega arith in
    let low' : 2 ^ 62 ≤ n = rw e at low in
    let high' : n < 2 ^ 63 = rw e at high in
    (sym (ap (λ b. cond b (n / 2 ^ (i - 61)) (n * 2 ^ (61 - i))) (lt-ltb 61 i h)), rw e (omega arith), rw e (omega arith))

pub moved_low : (i n : ℕ) → i ≤ 61 → 2 ^ i ≤ n → n < 2 ^ (i + 1) → ((n * 2 ^ (61 - i)) % 2 ^ 64 ≡ moved i n) × (2 ^ 61 ≤ (n * 2 ^ (61 - i)) % 2 ^ 64) × ((n * 2 ^ (61 - i)) % 2 ^ 64 < 2 ^ 62)
unfolding moved
moved_low i n h low high =
    let e : (n * 2 ^ (61 - i)) % 2 ^ 64 ≡ n * 2 ^ (61 - i) = shl_whole n (i + 1) (61 - i) 64 high (omega arith) in
    let p : i + (61 - i) ≡ 61 = omega arith in
    let q : (i + 1) + (61 - i) ≡ 62 = omega arith in
    let a : 2 ^ i * 2 ^ (61 - i) ≡ 2 ^ 61 = sym (pow-add 2 i (61 - i)) ∙ ap (λ (j : ℕ). 2 ^ j) p in
    let b : 2 ^ ((i + 1) + (61 - i)) ≡ 2 ^ 62 = ap (λ (j : ℕ). 2 ^ j) q in
    let m : n * 2 ^ (61 - i) < 2 ^ ((i + 1) + (61 - i)) = shl_below n (i + 1) (61 - i) high in
    let l : 2 ^ i * 2 ^ (61 - i) ≤ n * 2 ^ (61 - i) = mul-le-mul_right (2 ^ (61 - i)) low in
    (e ∙ sym (ap (λ b. cond b (n / 2 ^ (i - 61)) (n * 2 ^ (61 - i))) (le-ltb 61 i h)), omega arith, omega arith)

-- ---- what the calls answer

pub same_log : (a b : Log) → a.x ≡ b.x → a.y ≡ b.y → a.z ≡ b.z → a ≡ b
same_log a b p q r = λ i. record { x = p i; y = q i; z = r i }

pub log_z_by : (k i : ℕ) (y a s r : ℤ) → SFits w64 y → SFits w64 s → i ≡ step k → a ≡ pos (atanh i) → s ≡ shr (to_z w64 (of_z w64 a)) i → r ≡ along (to_z w64 (of_z w64 y)) (to_z w64 (of_z w64 s)) → r ≡ along y (shr (pos (atanh (step k))) (step k))
log_z_by k i y a s r fy fs e p q t =
    let fa : SFits w64 a = omega (arith, ints, atanh_small i) in
    along_of y a s r i i fy fa fs refl q t ∙ ap (λ v. along y (shr v i)) p ∙ ap (λ j. along y (shr (pos (atanh j)) j)) e

pub log_turns_more : (w k : ℕ) (l r : Log) → l ≡ log_turns w k → r ≡ log_turn (step k) l → r ≡ log_turns w (k + 1)
unfolding log_turns
log_turns_more w k l r p q = rw add-one (q ∙ ap (log_turn (step k)) p)

pub log_inv : (w k : ℕ) (l : Log) → 2 ^ 61 ≤ w → w < 2 ^ 62 → k ≤ 65 → l ≡ log_turns w k → LogIn k l
log_inv w k l h g b p = rw p (log_turns_in w k h g b)

pub frac_by : (w : ℕ) (z s : ℤ) → 2 ^ 61 ≤ w → w < 2 ^ 62 → z ≡ (log_turns w 65).z → s ≡ shr (to_z w64 (of_z w64 z) +ℤ pos 8) 4 → s ≡ shr ((log_turns w 65).z +ℤ pos 8) 4
frac_by w z s h g p q =
    let e : to_z w64 (of_z w64 z) ≡ z = omega (arith, ints, z_near w h g) in
    q ∙ ap (λ v. shr (v +ℤ pos 8) 4) e ∙ ap (λ v. shr (v +ℤ pos 8) 4) p

pub below_pow : (j m : ℕ) → 2 ^ j < 2 ^ m → j < m
below_pow j m h =
    elim (leb_tells m j) [
      | inl t ↦ absurd (omega (arith, pow_mono t.1))
      | inr t ↦ t.1
    ]

-- the place of the top digit
pub top : (m : ℕ) → 0 < m → m < 2 ^ 63 → (ipart_of m ≤ 62) × (2 ^ ipart_of m ≤ m) × (m < 2 ^ (ipart_of m + 1))
unfolding ipart_of
top m h g =
    let t = leading_top 64 m h (omega arith) in
    let e : 63 - count_leading_zeros 64 m ≡ t.0 = omega (arith, t.1) in
    let s : 2 ^ t.0 < 2 ^ 63 = omega (arith, t.2) in
    rw (e, add-one) (omega (arith, below_pow t.0 63 s), t.2, t.3)

pub blog_is : (n : ℤ) (m : ℕ) → n ≡ pos m → 0 < m → blog64 n ≡ blog_parts (ipart_of m) (moved (ipart_of m) m)
unfolding blog64
blog_is n zero e h = absurd (omega arith)
blog_is n (suc m) e h = ap blog64 e

pub blog_most : (i w m n : ℕ) → 2 ^ 61 ≤ w → w < 2 ^ 62 → 2 ^ i ≤ n → n < 2 ^ m → blog_parts i w <ℤ pos ((m + 1) * 2 ^ 57)
blog_most i w m n h g low high =
    let s : 2 ^ i < 2 ^ m = omega arith in
    omega (arith, ints, parts_most i w h g, below_pow i m s)

pub one_moved : (i n : ℕ) → 2 ^ i ≤ n → n < 2 ^ (i + 1) → i ≡ 0 → moved i n ≡ 2 ^ 61
unfolding moved
one_moved i n low high e =
    let low' : 1 ≤ n = rw e at low in
    let high' : n < 2 = rw e at high in
    let one : n ≡ 1 = omega arith in
    rw (e, one)

pub blog_none : (n : ℤ) → n ≤ℤ pos 0 → blog64 n ≡ negsuc 0
unfolding blog64
blog_none (negsuc n) h = refl
blog_none (pos zero) h = refl
blog_none (pos (suc n)) h = absurd (omega (arith, ints))

pub parts_low : (i w : ℕ) → 2 ^ 61 ≤ w → w < 2 ^ 62 → pos (i * 2 ^ 57) ≤ℤ (blog_parts i w +ℤ pos (2 ^ 54))
parts_low i w h g =
    elim (eqb_tells w (2 ^ 61)) [
      | inl t ↦ omega (arith, ints, parts_whole i w t.1)
      | inr t ↦ omega (arith, ints, parts_other i w t.1, fraction_in w h g)
    ]

pub blog_least : (i w m n : ℕ) → 2 ^ 61 ≤ w → w < 2 ^ 62 → n < 2 ^ (i + 1) → 2 ^ m ≤ n → pos (m * 2 ^ 57) ≤ℤ (blog_parts i w +ℤ pos (2 ^ 54))
blog_least i w m n h g high low =
    let s : 2 ^ m < 2 ^ (i + 1) = omega arith in
    omega (arith, ints, parts_low i w h g, below_pow m (i + 1) s)
