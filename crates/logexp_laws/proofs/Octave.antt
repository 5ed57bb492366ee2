-- The numbers n from 2^12 to 2^13 by one computed test: the fractions of their logarithms rise, and the
-- power of each fraction is nearer to n than a half.
use Rattle.std.proofs.Common.{◌≡◌, ℕ, zero, suc, ◌+◌, ◌-◌, ◌*◌, ◌/◌, ◌^◌, ◌<◌, ◌≤◌, Bool, true, ◌&&◌, ltb, leb, ℤ, pos, negsuc, ◌<ℤ◌, sym, refl, subst, arith}
use lib.Signed.{lt_z}
use Rattle.std.proofs.lemmas.Int.{ints}
use Rattle.std.proofs.lemmas.Bool.{and_parts, leb-true, ltb-true}
use Rattle.logexp.specs.LogExp.{computing}
use Rattle.logexp.proofs.Quick.{entries, quick, quick_z}
use Rattle.logexp.proofs.QuickExp.{exp_entries, quick_exp, quick_w}

-- the fraction of the logarithm of n / 2^12, in Q57
unfoldable pub part : ℕ → ℤ
part n = pos ((quick_z (n * 2 ^ 49) + 8 - 2 ^ 63) / 16)

-- the power of the fraction f, in Q61
unfoldable pub power : ℤ → ℕ
power (pos n) = quick_w (n * 32)
power (negsuc n) = 0

-- f is a fraction, not 0, and its power is nearer to n / 2^12 than half of 1 / 2^12
unfoldable good : ℕ → ℤ → Bool
good n f =
    (lt_z (pos 0) f && lt_z f (pos (2 ^ 57)))
    && (leb (n * 2 ^ 49) (power f + 2 ^ 48) && ltb (power f) (n * 2 ^ 49 + 2 ^ 48))

-- f a, with a computed first
unfoldable forced : ℤ → (ℤ → Bool) → Bool
forced (pos zero) f = f (pos zero)
forced (pos (suc n)) f = f (pos (suc n))
forced (negsuc zero) f = f (negsuc zero)
forced (negsuc (suc n)) f = f (negsuc (suc n))

forced_is : (a : ℤ) (f : ℤ → Bool) → forced a f ≡ f a
unfolding forced
forced_is (pos zero) f = refl
forced_is (pos (suc n)) f = refl
forced_is (negsuc zero) f = refl
forced_is (negsuc (suc n)) f = refl

-- the fractions of the k numbers after n rise from f and are good
unfoldable scan : ℕ → ℕ → ℤ → Bool
scan zero n f = true
scan (suc k) n f = forced (part (suc n)) (λ g. (lt_z f g && good (suc n) g) && scan k (suc n) g)

abbrev pub octave : ℕ
octave = 2 ^ 12

scanned : scan (octave - 1) octave (pos 0) ≡ true
unfolding scan forced part power good quick_z quick entries quick_w quick_exp exp_entries computing
scanned = refl

-- ---- what the test gives

pub record Good (n : ℕ) (f : ℤ) : Type 0 where
  pub least : pos 0 <ℤ f
  pub most : f <ℤ pos (2 ^ 57)
  pub low : n * 2 ^ 49 ≤ power f + 2 ^ 48
  pub high : power f < n * 2 ^ 49 + 2 ^ 48

lt_of : (a b : ℤ) → lt_z a b ≡ true → a <ℤ b
lt_of a b t = grind (arith, ints)

trans_lt : (a b c : ℤ) → a <ℤ b → b <ℤ c → a <ℤ c
trans_lt a b c h g = omega (arith, ints)

good_holds : (n : ℕ) (f : ℤ) → good n f ≡ true → Good n f
unfolding good
good_holds n f t =
    let p = and_parts _ _ t in
    let q = and_parts _ _ p.0 in
    let r = and_parts _ _ p.1 in
    record {
      least = lt_of (pos 0) f q.0;
      most = lt_of f (pos (2 ^ 57)) q.1;
      low = leb-true (n * 2 ^ 49) (power f + 2 ^ 48) r.0;
      high = ltb-true (power f) (n * 2 ^ 49 + 2 ^ 48) r.1;
    }

-- the number after n, with its fraction
record After (n : ℕ) : Type 0 where
  pub rises : part n <ℤ part (suc n)
  pub is_good : Good (suc n) (part (suc n))

here : (k n d : ℕ) → d < suc k → After n → ((j : ℕ) → j < k → After (suc n + j)) → After (n + d)
here k n zero h a b = let e : n ≡ n + 0 = omega arith in subst (λ (m : ℕ). After m) e a
here k n (suc d) h a b = let e : suc n + d ≡ n + suc d = omega arith in subst (λ (m : ℕ). After m) e (b d (omega arith))

scan_holds : (k n : ℕ) (f : ℤ) → f ≡ part n → scan k n f ≡ true → (d : ℕ) → d < k → After (n + d)
unfolding scan
scan_holds zero n f e t d h = absurd (omega arith)
scan_holds (suc k) n f e t d h =
    let g : ℤ = part (suc n) in
    let p = and_parts (lt_z f g && good (suc n) g) (scan k (suc n) g) (rw (forced_is (part (suc n)) (λ g. (lt_z f g && good (suc n) g) && scan k (suc n) g)) at t) in
    let q = and_parts (lt_z f g) (good (suc n) g) p.0 in
    here k n d h (record { rises = subst (λ (v : ℤ). v <ℤ part (suc n)) e (lt_of f g q.0); is_good = good_holds (suc n) g q.1 }) (scan_holds k (suc n) g refl p.1)

pub part_zero : part octave ≡ pos 0
unfolding part quick_z quick entries computing
part_zero = refl

after : (n : ℕ) → octave ≤ n → suc n < 2 * octave → After n
after n h g =
    let e : octave + (n - octave) ≡ n = omega arith in
    subst (λ (m : ℕ). After m) e (scan_holds (octave - 1) octave (pos 0) (sym part_zero) scanned (n - octave) (omega arith))

pub is_good_at : (n : ℕ) → octave < n → n < 2 * octave → Good n (part n)
is_good_at zero h g = absurd (omega arith)
is_good_at (suc n) h g = (after n (omega arith) g).is_good

pub rises_by : (n d : ℕ) → octave ≤ n → n + suc d < 2 * octave → part n <ℤ part (n + suc d)
rises_by n zero h g =
    let e : suc n ≡ n + 1 = omega arith in
    subst (λ (m : ℕ). part n <ℤ part m) e (after n h (omega arith)).rises
rises_by n (suc d) h g =
    let e : suc (n + suc d) ≡ n + suc (suc d) = omega arith in
    let a = rises_by n d h (omega arith) in
    let b = (after (n + suc d) (omega arith) (omega arith)).rises in
    subst (λ (m : ℕ). part n <ℤ part m) e (trans_lt (part n) (part (n + suc d)) _ a b)
