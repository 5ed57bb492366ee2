-- The logarithm's sum u = x + y and difference v = x - y through a turn: both stay well above 0, a turn
-- takes one to more and the other to less by the same part, and y is negative exactly if u < v. So bounds of
-- u / v and of v / u give those after the turn.
use Rattle.std.proofs.Common.{◌≡◌, ℕ, zero, suc, ◌+◌, ◌-◌, ◌*◌, ◌/◌, ◌^◌, ◌<◌, ◌≤◌, max, true, leb, ℤ, pos, negsuc, ◌+ℤ◌, ◌-ℤ◌, nat_abs, ◌≤ℤ◌, ◌<ℤ◌, refl, ap, inl, inr, div-mul-le_self, arith}
use native.Mathlib.Nat.{lt-div-mul-add}
use lib.Pow.{shr_mono}
use Rattle.std.proofs.lemmas.Int.{ints}
use Rattle.std.proofs.lemmas.Nat.{pow_pos, pow-add, le-div, div_below}
use Rattle.std.proofs.lemmas.Bool.{leb-true, cases_lt}
use Rattle.logexp.specs.Cordic.{step, shr}
use Rattle.logexp.specs.LogExp.{log_turn, computing}
use Rattle.logexp.specs.declared.log.Log.{Log}
use Rattle.logexp.proofs.TableRules.{all, all_at}
use Rattle.logexp.proofs.ExpTurns.{along_neg, along_pos}
use Rattle.logexp.proofs.Ratios.{unit, Near, next, next_holds, shrunk, grown_by, shrink}
use Rattle.logexp.proofs.LogTurns.{half}

-- ---- the parts of a sum and of a difference

sum_least : (m q d : ℕ) → 0 < d → m / d + q / d ≤ (m + q) / d
sum_least m q d h =
    let a = div-mul-le_self m d in
    let b = div-mul-le_self q d in
    le-div (m / d + q / d) (m + q) d h (omega arith)

sum_most : (m q d : ℕ) → 0 < d → (m + q + 1) / d ≤ m / d + q / d + 1
sum_most m q d h =
    let a = lt-div-mul-add {a = m} h in
    let b = lt-div-mul-add {a = q} h in
    let c : m + q + 1 < (m / d + q / d + 2) * d = omega arith in
    omega (arith, div_below (m + q + 1) d (m / d + q / d + 2) h c)

-- j units, up to one, are the s-th part of u
pub record Part (j : ℤ) (u s : ℕ) : Type 0 where
  pub least : pos (u / 2 ^ s) ≤ℤ (j +ℤ pos 1)
  pub most : j ≤ℤ pos (u / 2 ^ s + 1)

sum_part : (x y : ℤ) (u v s : ℕ) → x +ℤ y ≡ pos u → x -ℤ y ≡ pos v → Part (shr x s +ℤ shr y s) u s
sum_part (pos m) (pos q) u v s e d =
    let i : u ≡ m + q = omega (arith, ints) in
    let f : u / 2 ^ s ≡ (m + q) / 2 ^ s = ap (λ (n : ℕ). n / 2 ^ s) i in
    let a = sum_least m q (2 ^ s) (pow_pos s) in
    let b = sum_most m q (2 ^ s) (pow_pos s) in
    let c : (m + q) / 2 ^ s ≤ (m + q + 1) / 2 ^ s = shr_mono s (omega arith) in
    record { least = omega (arith, ints); most = omega (arith, ints) }
sum_part (pos m) (negsuc q) u v s e d =
    let i : m ≡ u + q + 1 = omega (arith, ints) in
    let f : m / 2 ^ s ≡ (u + q + 1) / 2 ^ s = ap (λ (n : ℕ). n / 2 ^ s) i in
    let a = sum_least u q (2 ^ s) (pow_pos s) in
    let b = sum_most u q (2 ^ s) (pow_pos s) in
    let c : (u + q) / 2 ^ s ≤ (u + q + 1) / 2 ^ s = shr_mono s (omega arith) in
    record { least = omega (arith, ints); most = omega (arith, ints) }
sum_part (negsuc m) (pos q) u v s e d = absurd (omega (arith, ints))
sum_part (negsuc m) (negsuc q) u v s e d = absurd (omega (arith, ints))

dif_part : (x y : ℤ) (u v s : ℕ) → x +ℤ y ≡ pos u → x -ℤ y ≡ pos v → Part (shr x s -ℤ shr y s) v s
dif_part (pos m) (pos q) u v s e d =
    let i : m ≡ v + q = omega (arith, ints) in
    let f : m / 2 ^ s ≡ (v + q) / 2 ^ s = ap (λ (n : ℕ). n / 2 ^ s) i in
    let a = sum_least v q (2 ^ s) (pow_pos s) in
    let b = sum_most v q (2 ^ s) (pow_pos s) in
    let c : (v + q) / 2 ^ s ≤ (v + q + 1) / 2 ^ s = shr_mono s (omega arith) in
    record { least = omega (arith, ints); most = omega (arith, ints) }
dif_part (pos m) (negsuc q) u v s e d =
    let i : v ≡ m + q + 1 = omega (arith, ints) in
    let f : v / 2 ^ s ≡ (m + q + 1) / 2 ^ s = ap (λ (n : ℕ). n / 2 ^ s) i in
    let a = sum_least m q (2 ^ s) (pow_pos s) in
    let b = sum_most m q (2 ^ s) (pow_pos s) in
    let c : (m + q) / 2 ^ s ≤ (m + q + 1) / 2 ^ s = shr_mono s (omega arith) in
    record { least = omega (arith, ints); most = omega (arith, ints) }
dif_part (negsuc m) (pos q) u v s e d = absurd (omega (arith, ints))
dif_part (negsuc m) (negsuc q) u v s e d = absurd (omega (arith, ints))

-- ---- one turn

-- t goes to f / s of it, which is m up to one; r is what it goes to
record Step (f s t m : ℕ) (r : ℤ) : Type 0 where
  pub to : ℕ
  pub is : r ≡ pos to
  pub near : Near f s t to
  pub low : m ≤ to + 1

lessened : (t i : ℕ) (j r : ℤ) → r ≡ pos t -ℤ j → Part j t (i + 1) → 2 ^ 60 ≤ t → Step (2 ^ (i + 1) - 1) (2 ^ (i + 1)) t (t - t / 2 ^ (i + 1)) r
lessened t i j r e q h =
    let f : (2 ^ (i + 1) - 1) + 1 ≡ 2 ^ (i + 1) = omega (arith, pow_pos (i + 1)) in
    let a : r ≡ pos (nat_abs r) = omega (arith, ints, half t i, q.most) in
    let b : nat_abs r + nat_abs (j +ℤ pos 1) ≡ t + 1 = omega (arith, ints, q.least) in
    record {
      to = nat_abs r;
      is = a;
      near = shrunk (2 ^ (i + 1)) (2 ^ (i + 1) - 1) t (nat_abs (j +ℤ pos 1)) (nat_abs r) (pow_pos (i + 1)) f b (omega (arith, ints, q.least)) (omega (arith, ints, q.least, q.most));
      low = omega (arith, ints, q.most);
    }

raised : (t i : ℕ) (j r : ℤ) → r ≡ pos t +ℤ j → Part j t (i + 1) → 2 ^ 60 ≤ t → Step (2 ^ (i + 1) + 1) (2 ^ (i + 1)) t (t + t / 2 ^ (i + 1)) r
raised t i j r e q h =
    let a : r ≡ pos (nat_abs r) = omega (arith, ints, q.least) in
    let b : nat_abs r + 1 ≡ t + nat_abs (j +ℤ pos 1) = omega (arith, ints, q.least) in
    record {
      to = nat_abs r;
      is = a;
      near = grown_by (2 ^ (i + 1)) t (nat_abs (j +ℤ pos 1)) (nat_abs r) (pow_pos (i + 1)) b (omega (arith, ints, q.least)) (omega (arith, ints, q.least, q.most));
      low = omega (arith, ints, q.least);
    }

-- what is at least left of a number that is at least c, and what it at least comes to
abbrev pub left_of : ℕ → ℕ → ℕ
left_of k c = c - c / 2 ^ (step k + 1) - 1

abbrev pub grown_to : ℕ → ℕ → ℕ
grown_to k c = c + c / 2 ^ (step k + 1) - 1

left_holds : (k c t to : ℕ) → c ≤ t → t - t / 2 ^ (step k + 1) ≤ to + 1 → left_of k c ≤ to
left_holds k c t to h g = omega (arith, shrink c t (step k + 1) h)

grown_holds : (k c t to : ℕ) → c ≤ t → t + t / 2 ^ (step k + 1) ≤ to + 1 → grown_to k c ≤ to
grown_holds k c t to h g = omega (arith, shr_mono (step k + 1) h)

-- what u and v are at least before turn k, whatever the turns before it
unfoldable pub low : ℕ → ℕ
low zero = 2 ^ 62
low (suc k) = left_of k (low k)

low_computed : all (λ k. leb (2 ^ 60) (low k)) 66 ≡ true
unfolding low computing
low_computed = refl

pub low_least : (k : ℕ) → k < 66 → 2 ^ 60 ≤ low k
low_least k h = leb-true (2 ^ 60) (low k) (all_at (λ k. leb (2 ^ 60) (low k)) 66 low_computed k h)

low_next : (k t to : ℕ) → low k ≤ t → t - t / 2 ^ (step k + 1) ≤ to + 1 → low (suc k) ≤ to
unfolding low
low_next k t to h g = left_holds k (low k) t to h g

-- the bounds a and b of the ratios before turn k, and c and d of u and v
pub record Ratio (k a b c d : ℕ) (l : Log) : Type 0 where
  pub u : ℕ
  pub v : ℕ
  pub sum : l.x +ℤ l.y ≡ pos u
  pub dif : l.x -ℤ l.y ≡ pos v
  pub low_u : low k ≤ u
  pub low_v : low k ≤ v
  pub above : a * v ≤ unit * u
  pub below : b * u ≤ unit * v
  pub at_u : c ≤ u
  pub at_v : d ≤ v

max_holds : (a v c : ℕ) → a * v ≤ c → unit * v ≤ c → max a unit * v ≤ c
max_holds a v c h g =
    elim (cases_lt a unit) [
      | inl l ↦ let e : max a unit ≡ unit = omega arith in rw e g
      | inr l ↦ let e : max a unit ≡ a = omega arith in rw e h
    ]

two_at_least : (i : ℕ) → 2 ≤ 2 ^ (i + 1)
two_at_least i = omega (arith, pow-add 2 i 1, pow_pos i)

-- the sum and the difference after a turn
above_sum : (l : Log) (i u : ℕ) → pos 0 ≤ℤ l.y → l.x +ℤ l.y ≡ pos u → ((log_turn i l).x +ℤ (log_turn i l).y) ≡ pos u -ℤ (shr l.x (i + 1) +ℤ shr l.y (i + 1))
unfolding log_turn
above_sum l i u s e =
    omega (arith, ints, along_pos l.y (shr l.y (i + 1)) s, along_pos l.y (shr l.x (i + 1)) s)

above_dif : (l : Log) (i v : ℕ) → pos 0 ≤ℤ l.y → l.x -ℤ l.y ≡ pos v → ((log_turn i l).x -ℤ (log_turn i l).y) ≡ pos v +ℤ (shr l.x (i + 1) -ℤ shr l.y (i + 1))
unfolding log_turn
above_dif l i v s e =
    omega (arith, ints, along_pos l.y (shr l.y (i + 1)) s, along_pos l.y (shr l.x (i + 1)) s)

below_sum : (l : Log) (i u : ℕ) → l.y <ℤ pos 0 → l.x +ℤ l.y ≡ pos u → ((log_turn i l).x +ℤ (log_turn i l).y) ≡ pos u +ℤ (shr l.x (i + 1) +ℤ shr l.y (i + 1))
unfolding log_turn
below_sum l i u s e =
    omega (arith, ints, along_neg l.y (shr l.y (i + 1)) s, along_neg l.y (shr l.x (i + 1)) s)

below_dif : (l : Log) (i v : ℕ) → l.y <ℤ pos 0 → l.x -ℤ l.y ≡ pos v → ((log_turn i l).x -ℤ (log_turn i l).y) ≡ pos v -ℤ (shr l.x (i + 1) -ℤ shr l.y (i + 1))
unfolding log_turn
below_dif l i v s e =
    omega (arith, ints, along_neg l.y (shr l.y (i + 1)) s, along_neg l.y (shr l.x (i + 1)) s)

-- the bound p of y / x after turn k, where x is at least c: x shrinks and y grows, or the other way round
abbrev pub more : ℕ → ℕ → ℕ → ℕ
more k c p = next (max c (2 ^ 60)) (2 ^ (step k + 1)) (2 ^ (step k + 1) - 1) (2 ^ (step k + 1) + 1) p

abbrev pub less : ℕ → ℕ → ℕ → ℕ
less k c p = next (max c (2 ^ 60)) (2 ^ (step k + 1)) (2 ^ (step k + 1) + 1) (2 ^ (step k + 1) - 1) p

-- the bounds after a turn with y not negative, and after one with y negative
pub step_above : (k a b c d : ℕ) (l : Log) → k < 65 → pos 0 ≤ℤ l.y → Ratio k a b c d l → Ratio (suc k) (less k d (max a unit)) (more k c b) (left_of k c) (grown_to k d) (log_turn (step k) l)
step_above k a b c d l h s q =
    let i : ℕ = step k in
    let n = low_least k (omega arith) in
    let tw = two_at_least (step k) in
    let pu = sum_part l.x l.y q.u q.v (i + 1) q.sum q.dif in
    let pv = dif_part l.x l.y q.u q.v (i + 1) q.sum q.dif in
    let su : Step (2 ^ (i + 1) - 1) (2 ^ (i + 1)) q.u (q.u - q.u / 2 ^ (i + 1)) ((log_turn i l).x +ℤ (log_turn i l).y) = lessened q.u i _ _ (above_sum l i q.u s q.sum) pu (omega (arith, q.low_u)) in
    let sv : Step (2 ^ (i + 1) + 1) (2 ^ (i + 1)) q.v (q.v + q.v / 2 ^ (i + 1)) ((log_turn i l).x -ℤ (log_turn i l).y) = raised q.v i _ _ (above_dif l i q.v s q.dif) pv (omega (arith, q.low_v)) in
    record {
      u = su.to;
      v = sv.to;
      sum = su.is;
      dif = sv.is;
      low_u = low_next k q.u su.to q.low_u (omega (arith, su.low));
      low_v = low_next k q.v sv.to q.low_v (omega (arith, sv.low));
      above = next_holds (max d (2 ^ 60)) (2 ^ (i + 1)) (2 ^ (i + 1) + 1) (2 ^ (i + 1) - 1) (max a unit) q.v q.u sv.to su.to (omega arith) (omega arith) (omega arith) (omega (arith, q.low_v, q.at_v)) (max_holds a q.v (unit * q.u) q.above (omega (arith, ints, q.sum, q.dif))) sv.near.most su.near.least;
      below = next_holds (max c (2 ^ 60)) (2 ^ (i + 1)) (2 ^ (i + 1) - 1) (2 ^ (i + 1) + 1) b q.u q.v su.to sv.to (omega arith) (omega arith) (omega arith) (omega (arith, q.low_u, q.at_u)) q.below su.near.most sv.near.least;
      at_u = left_holds k c q.u su.to q.at_u su.low;
      at_v = grown_holds k d q.v sv.to q.at_v sv.low;
    }

pub step_below : (k a b c d : ℕ) (l : Log) → k < 65 → l.y <ℤ pos 0 → Ratio k a b c d l → Ratio (suc k) (more k d a) (less k c (max b unit)) (grown_to k c) (left_of k d) (log_turn (step k) l)
step_below k a b c d l h s q =
    let i : ℕ = step k in
    let n = low_least k (omega arith) in
    let tw = two_at_least (step k) in
    let pu = sum_part l.x l.y q.u q.v (i + 1) q.sum q.dif in
    let pv = dif_part l.x l.y q.u q.v (i + 1) q.sum q.dif in
    let su : Step (2 ^ (i + 1) + 1) (2 ^ (i + 1)) q.u (q.u + q.u / 2 ^ (i + 1)) ((log_turn i l).x +ℤ (log_turn i l).y) = raised q.u i _ _ (below_sum l i q.u s q.sum) pu (omega (arith, q.low_u)) in
    let sv : Step (2 ^ (i + 1) - 1) (2 ^ (i + 1)) q.v (q.v - q.v / 2 ^ (i + 1)) ((log_turn i l).x -ℤ (log_turn i l).y) = lessened q.v i _ _ (below_dif l i q.v s q.dif) pv (omega (arith, q.low_v)) in
    record {
      u = su.to;
      v = sv.to;
      sum = su.is;
      dif = sv.is;
      low_u = low_next k q.u su.to q.low_u (omega (arith, su.low));
      low_v = low_next k q.v sv.to q.low_v (omega (arith, sv.low));
      above = next_holds (max d (2 ^ 60)) (2 ^ (i + 1)) (2 ^ (i + 1) - 1) (2 ^ (i + 1) + 1) a q.v q.u sv.to su.to (omega arith) (omega arith) (omega arith) (omega (arith, q.low_v, q.at_v)) q.above sv.near.most su.near.least;
      below = next_holds (max c (2 ^ 60)) (2 ^ (i + 1)) (2 ^ (i + 1) + 1) (2 ^ (i + 1) - 1) (max b unit) q.u q.v su.to sv.to (omega arith) (omega arith) (omega arith) (omega (arith, q.low_u, q.at_u)) (max_holds b q.u (unit * q.v) q.below (omega (arith, ints, q.sum, q.dif))) su.near.most sv.near.least;
      at_u = grown_holds k c q.u su.to q.at_u su.low;
      at_v = left_holds k d q.v sv.to q.at_v sv.low;
    }
