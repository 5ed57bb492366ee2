-- The logarithm's turns on natural numbers, quicker to compute: y and z have 2^63 added, so that neither is
-- negative, and the steps and constants stand in a list.
use Rattle.std.proofs.Common.{◌≡◌, ℕ, zero, suc, ◌+◌, ◌-◌, ◌*◌, ◌/◌, ◌%◌, ◌^◌, ◌<◌, ◌≤◌, true, false, ltb, List, [], ◌∷◌, ℤ, pos, negsuc, ◌+ℤ◌, ◌≤ℤ◌, ◌<ℤ◌, sym, refl, ap, ◌∙◌, inl, inr, arith, le-ltb, lt-ltb}
use native.Mathlib.Nat.{add-mul-div_right}
use Rattle.std.proofs.lemmas.Int.{ints}
use Rattle.std.proofs.lemmas.Nat.{pow_pos, pow-add, shl-shr, shr_split, mod_below, div_below}
use Rattle.logexp.specs.Cordic.{step, atanh, shr}
use Rattle.logexp.specs.LogExp.{log_turn, log_turns, computing}
use Rattle.logexp.specs.Bounds.{LogIn}
use Rattle.logexp.specs.declared.log.Log.{Log}
use Rattle.logexp.proofs.TableRules.{step_small}
use Rattle.logexp.proofs.ExpTurns.{along_neg, along_pos}
use Rattle.logexp.proofs.Walks.{sign_of}
use Rattle.logexp.proofs.LogTurns.{log_next, log_turns_in, x_positive, log_bound_small}
use Rattle.logexp.proofs.LogBand.{walk, turns_walk}

-- 2^(step + 1) and what a turn adds to z, turn by turn
unfoldable pub entries : List (ℕ × ℕ)
entries =
    (2 ^ 1, 3654674702153732340) ∷ (2 ^ 2, 1699326963339162763) ∷ (2 ^ 3, 836029682899283585) ∷ (2 ^ 4, 416371250271210588) ∷
    (2 ^ 4, 416371250271210588) ∷ (2 ^ 5, 207981987263505864) ∷ (2 ^ 6, 103965594869578750) ∷ (2 ^ 7, 51979624333831651) ∷
    (2 ^ 8, 25989415583768491) ∷ (2 ^ 9, 12994658220692798) ∷ (2 ^ 10, 6497322914000652) ∷ (2 ^ 11, 3248660682458770) ∷
    (2 ^ 12, 1624330244411742) ∷ (2 ^ 13, 812165110103667) ∷ (2 ^ 13, 812165110103667) ∷ (2 ^ 14, 406082553539058) ∷
    (2 ^ 15, 203041276580432) ∷ (2 ^ 16, 101520638266579) ∷ (2 ^ 17, 50760319130334) ∷ (2 ^ 18, 25380159564798) ∷
    (2 ^ 19, 12690079782352) ∷ (2 ^ 20, 6345039891170) ∷ (2 ^ 21, 3172519945584) ∷ (2 ^ 22, 1586259972792) ∷
    (2 ^ 23, 793129986396) ∷ (2 ^ 24, 396564993198) ∷ (2 ^ 25, 198282496599) ∷ (2 ^ 26, 99141248299) ∷
    (2 ^ 27, 49570624149) ∷ (2 ^ 28, 24785312074) ∷ (2 ^ 29, 12392656037) ∷ (2 ^ 30, 6196328018) ∷
    (2 ^ 31, 3098164009) ∷ (2 ^ 32, 1549082004) ∷ (2 ^ 33, 774541002) ∷ (2 ^ 34, 387270501) ∷
    (2 ^ 35, 193635250) ∷ (2 ^ 36, 96817625) ∷ (2 ^ 37, 48408812) ∷ (2 ^ 38, 24204406) ∷
    (2 ^ 39, 12102203) ∷ (2 ^ 40, 6051101) ∷ (2 ^ 40, 6051101) ∷ (2 ^ 41, 3025550) ∷
    (2 ^ 42, 1512775) ∷ (2 ^ 43, 756387) ∷ (2 ^ 44, 378193) ∷ (2 ^ 45, 189096) ∷
    (2 ^ 46, 94548) ∷ (2 ^ 47, 47274) ∷ (2 ^ 48, 23637) ∷ (2 ^ 49, 11818) ∷
    (2 ^ 50, 5909) ∷ (2 ^ 51, 2954) ∷ (2 ^ 52, 1477) ∷ (2 ^ 53, 738) ∷
    (2 ^ 54, 369) ∷ (2 ^ 55, 184) ∷ (2 ^ 56, 92) ∷ (2 ^ 57, 46) ∷
    (2 ^ 58, 23) ∷ (2 ^ 59, 11) ∷ (2 ^ 60, 5) ∷ (2 ^ 61, 2) ∷
    (2 ^ 62, 1) ∷ []

unfoldable made : ℕ → ℕ → List (ℕ × ℕ)
made zero k = []
made (suc n) k = (2 ^ (step k + 1), atanh (step k) / 2 ^ step k) ∷ made n (suc k)

entries_made : entries ≡ made 65 0
unfolding entries made computing
entries_made = refl

unfoldable pub quick : List (ℕ × ℕ) → ℕ → ℕ → ℕ → ℕ
quick [] x y z = z
quick (e ∷ es) x y z = elim (ltb y (2 ^ 63)) [
  | true ↦ quick es (x + y / e.0 - 2 ^ 63 / e.0) (y + x / e.0) (z - e.1)
  | false ↦ quick es (x + 2 ^ 63 / e.0 - y / e.0) (y - x / e.0) (z + e.1)
]

-- a quotient of y with 2^63 added
by_sign : (v : ℤ) (y s m b : ℕ) → 2 ^ 63 ≡ m * 2 ^ s → b ≡ m → v +ℤ pos (2 ^ 63) ≡ pos y → pos (y / 2 ^ s) ≡ shr v s +ℤ pos b
by_sign (pos n) y s m b e q h =
    let i : y ≡ n + m * 2 ^ s = omega (arith, ints) in
    let d : y / 2 ^ s ≡ n / 2 ^ s + m = ap (λ (j : ℕ). j / 2 ^ s) i ∙ add-mul-div_right n m (pow_pos s) in
    omega (arith, ints)
by_sign (negsuc n) y s m b e q h =
    let r = mod_below n (2 ^ s) (pow_pos s) in
    let sp = shr_split n s in
    let i : y + (n / 2 ^ s + 1) * 2 ^ s ≡ (2 ^ s - 1 - n % 2 ^ s) + m * 2 ^ s = omega (arith, ints) in
    let z : (2 ^ s - 1 - n % 2 ^ s) / 2 ^ s < 1 = div_below (2 ^ s - 1 - n % 2 ^ s) (2 ^ s) 1 (pow_pos s) (omega arith) in
    let d = ap (λ (j : ℕ). j / 2 ^ s) i in
    let a = add-mul-div_right y (n / 2 ^ s + 1) (pow_pos s) in
    let c = add-mul-div_right (2 ^ s - 1 - n % 2 ^ s) m (pow_pos s) in
    let k : y / 2 ^ s + (n / 2 ^ s + 1) ≡ m = sym a ∙ d ∙ c ∙ omega arith in
    omega (arith, ints)

floor_up : (v : ℤ) (y s : ℕ) → s ≤ 63 → v +ℤ pos (2 ^ 63) ≡ pos y → pos (y / 2 ^ s) ≡ shr v s +ℤ pos (2 ^ 63 / 2 ^ s)
floor_up v y s h e =
    let t : (63 - s) + s ≡ 63 = omega arith in
    let b : 2 ^ 63 ≡ 2 ^ (63 - s) * 2 ^ s = ap (λ (j : ℕ). 2 ^ j) (sym t) ∙ pow-add 2 (63 - s) s in
    let q : 2 ^ 63 / 2 ^ s ≡ 2 ^ (63 - s) = ap (λ (j : ℕ). j / 2 ^ s) b ∙ shl-shr (2 ^ (63 - s)) s in
    by_sign v y s (2 ^ (63 - s)) (2 ^ 63 / 2 ^ s) b q e

-- the state as natural numbers
record As (l : Log) (x y z : ℕ) : Type 0 where
  pub x_is : l.x ≡ pos x
  pub y_is : l.y +ℤ pos (2 ^ 63) ≡ pos y
  pub z_is : l.z +ℤ pos (2 ^ 63) ≡ pos z

next_below : (k : ℕ) (l : Log) (x y z : ℕ) → k < 65 → LogIn k l → l.y <ℤ pos 0 → As l x y z → As (log_turn (step k) l) (x + y / 2 ^ (step k + 1) - 2 ^ 63 / 2 ^ (step k + 1)) (y + x / 2 ^ (step k + 1)) (z - atanh (step k) / 2 ^ step k)
unfolding log_turn
next_below k l x y z h i s a =
    let n = log_next k l h i in
    let p = x_positive (suc k) (log_turn (step k) l) (omega arith) n in
    let f = floor_up l.y y (step k + 1) (omega (arith, step_small k h)) a.y_is in
    let g : shr l.x (step k + 1) ≡ pos (x / 2 ^ (step k + 1)) = ap (λ (v : ℤ). shr v (step k + 1)) a.x_is in
    let ax = along_neg l.y (shr l.x (step k + 1)) s in
    let ay = along_neg l.y (shr l.y (step k + 1)) s in
    let az = along_neg l.y (pos (atanh (step k) / 2 ^ step k)) s in
    record {
      x_is = omega (arith, ints, a.x_is, p);
      y_is = omega (arith, ints, a.y_is);
      z_is = omega (arith, ints, a.z_is, n.z_in, log_bound_small (suc k) (omega arith));
    }

next_above : (k : ℕ) (l : Log) (x y z : ℕ) → k < 65 → LogIn k l → pos 0 ≤ℤ l.y → As l x y z → As (log_turn (step k) l) (x + 2 ^ 63 / 2 ^ (step k + 1) - y / 2 ^ (step k + 1)) (y - x / 2 ^ (step k + 1)) (z + atanh (step k) / 2 ^ step k)
unfolding log_turn
next_above k l x y z h i s a =
    let n = log_next k l h i in
    let p = x_positive (suc k) (log_turn (step k) l) (omega arith) n in
    let f = floor_up l.y y (step k + 1) (omega (arith, step_small k h)) a.y_is in
    let g : shr l.x (step k + 1) ≡ pos (x / 2 ^ (step k + 1)) = ap (λ (v : ℤ). shr v (step k + 1)) a.x_is in
    let ax = along_pos l.y (shr l.x (step k + 1)) s in
    let ay = along_pos l.y (shr l.y (step k + 1)) s in
    let az = along_pos l.y (pos (atanh (step k) / 2 ^ step k)) s in
    record {
      x_is = omega (arith, ints, a.x_is, p);
      y_is = omega (arith, ints, a.y_is, n.y_in);
      z_is = omega (arith, ints, a.z_is);
    }

quick_walk : (n k : ℕ) (l : Log) (x y z : ℕ) → k + n ≤ 65 → LogIn k l → As l x y z → (walk n k l).z +ℤ pos (2 ^ 63) ≡ pos (quick (made n k) x y z)
unfolding walk quick made
quick_walk zero k l x y z h i a = a.z_is
quick_walk (suc n) k l x y z h i a =
    elim (sign_of l.y) [
      | inl s ↦
          rw (lt-ltb y (2 ^ 63) (omega (arith, ints, a.y_is)), quick)
          (quick_walk n (suc k) (log_turn (step k) l) _ _ _ (omega arith) (log_next k l (omega arith) i) (next_below k l x y z (omega arith) i s a))
      | inr s ↦
          rw (le-ltb y (2 ^ 63) (omega (arith, ints, a.y_is)), quick)
          (quick_walk n (suc k) (log_turn (step k) l) _ _ _ (omega arith) (log_next k l (omega arith) i) (next_above k l x y z (omega arith) i s a))
    ]

starts : (w : ℕ) → 2 ^ 61 ≤ w → w < 2 ^ 62 → As (log_turns w 0) (w + 2 ^ 61) (w - 2 ^ 61 + 2 ^ 63) (2 ^ 63)
unfolding log_turns
starts w h g = record { x_is = omega (arith, ints); y_is = omega (arith, ints); z_is = omega (arith, ints) }

-- z with 2^63 added, after all the turns for w
unfoldable pub quick_z : ℕ → ℕ
quick_z w = quick entries (w + 2 ^ 61) (w - 2 ^ 61 + 2 ^ 63) (2 ^ 63)

pub quick_z_is : (w : ℕ) → 2 ^ 61 ≤ w → w < 2 ^ 62 → (log_turns w 65).z +ℤ pos (2 ^ 63) ≡ pos (quick_z w)
unfolding quick_z
quick_z_is w h g =
    ap (λ (l : Log). l.z +ℤ pos (2 ^ 63)) (sym (turns_walk w 65 0))
    ∙ quick_walk 65 0 (log_turns w 0) (w + 2 ^ 61) (w - 2 ^ 61 + 2 ^ 63) (2 ^ 63) (omega arith) (log_turns_in w 0 h g (omega arith)) (starts w h g)
    ∙ ap (λ (es : List (ℕ × ℕ)). pos (quick es (w + 2 ^ 61) (w - 2 ^ 61 + 2 ^ 63) (2 ^ 63))) (sym entries_made)
