-- Logs rise from entry to entry of a table, by a test that antt computes.
use Rattle.std.proofs.Common.{◌≡◌, ℕ, zero, suc, ◌-◌, ◌^◌, ◌<◌, ◌≤◌, Bool, true, ◌&&◌, T, List, [], ◌∷◌, length, get_or, ℤ, pos, neg_ℤ, ◌≤ℤ◌, ◌<ℤ◌, refl, le_of_suc-le-suc, not-suc-le-zero, arith}
use lib.Ieee.Fits.{and_l, and_r}
use lib.Signed.{lt_z, le_z}
use Rattle.std.proofs.lemmas.Int.{ints}
use Rattle.logexp.specs.LogExp.{computing}
use Rattle.tables.specs.Depths.{dc_table, ac_table}
use Rattle.tables.specs.Choice.{index}
use Rattle.flat.specs.Flat.{entry_log, ac_log, flat_log, flat_base, Ordered, LogsOrdered}
use Rattle.tables.specs.declared.depth.Depth.{Depth}
use Rattle.tables.specs.declared.depth.Depth.TheVariants.{Eight, Ten, Twelve}

module _ (f : ℕ → ℤ) where
  abbrev climbs : ℤ → List ℕ → Bool
  climbs p [] = true
  climbs p (x ∷ xs) = le_z p (f x) && climbs (f x) xs

  le_of : (a b : ℤ) → T (le_z a b) → a ≤ℤ b
  le_of a b t = record { le = t }

  le_trans : (a b c : ℤ) → a ≤ℤ b → b ≤ℤ c → a ≤ℤ c
  le_trans a b c h k = omega (arith, ints)

  above : (p : ℤ) (xs : List ℕ) → T (climbs p xs) → (j : ℕ) → j < length xs → p ≤ℤ f (get_or xs j 0)
  above p [] t j h = absurd (not-suc-le-zero h)
  above p (x ∷ xs) t zero h = le_of p (f x) (and_l (le_z p (f x)) (climbs (f x) xs) t)
  above p (x ∷ xs) t (suc j) h =
      le_trans p (f x) (f (get_or xs j 0)) (le_of p (f x) (and_l (le_z p (f x)) (climbs (f x) xs) t)) (above (f x) xs (and_r (le_z p (f x)) (climbs (f x) xs) t) j (le_of_suc-le-suc h))

  le_same : (a : ℤ) → a ≤ℤ a
  le_same a = omega (arith, ints)

  rising : (p : ℤ) (xs : List ℕ) → T (climbs p xs) → (i j : ℕ) → i ≤ j → j < length xs → f (get_or xs i 0) ≤ℤ f (get_or xs j 0)
  rising p [] t i j k h = absurd (not-suc-le-zero h)
  rising p (x ∷ xs) t zero zero k h = le_same (f x)
  rising p (x ∷ xs) t zero (suc j) k h = above (f x) xs (and_r (le_z p (f x)) (climbs (f x) xs) t) j (le_of_suc-le-suc h)
  rising p (x ∷ xs) t (suc i) zero k h = absurd (not-suc-le-zero k)
  rising p (x ∷ xs) t (suc i) (suc j) k h = rising (f x) xs (and_r (le_z p (f x)) (climbs (f x) xs) t) i j (le_of_suc-le-suc k) (le_of_suc-le-suc h)

  abbrev test : List ℕ → Bool
  test t = climbs (neg_ℤ (pos (2 ^ 60 - 1))) t && lt_z (f (get_or t 255 0)) (pos (2 ^ 60))

  under_by : (a : ℤ) → neg_ℤ (pos (2 ^ 60 - 1)) ≤ℤ a → neg_ℤ (pos (2 ^ 60)) <ℤ a
  under_by a h = omega (arith, ints)

  between : (a b c : ℤ) → a ≤ℤ b → b <ℤ c → a <ℤ c
  between a b c h k = omega (arith, ints)

  pub ordered_by : (t : List ℕ) → length t ≡ 256 → T (test t) → Ordered (λ i. f (get_or t i 0))
  ordered_by t size h =
      let up = and_l (climbs (neg_ℤ (pos (2 ^ 60 - 1))) t) (lt_z (f (get_or t 255 0)) (pos (2 ^ 60))) h in
      let last : f (get_or t 255 0) <ℤ pos (2 ^ 60) = record { lt = and_r (climbs (neg_ℤ (pos (2 ^ 60 - 1))) t) (lt_z (f (get_or t 255 0)) (pos (2 ^ 60))) h } in
      let rise : (i j : ℕ) → i ≤ j → j < 256 → f (get_or t i 0) ≤ℤ f (get_or t j 0) = λ i j k l. rising _ t up i j k (rw (size) l) in
      record {
        rises = rise;
        near = λ i l. record {
          least = under_by (f (get_or t i 0)) (above _ t up i (rw size l));
          most = between (f (get_or t i 0)) (f (get_or t 255 0)) (pos (2 ^ 60)) (rise i 255 (omega arith) (omega arith)) last;
        };
      }

ac_size : (d : Depth) → length (ac_table d) ≡ 256
unfolding ac_table
ac_size Eight = refl
ac_size Ten = refl
ac_size Twelve = refl

-- the test of the AC entries' logs, over all 768
ac_climbs : (d : Depth) → T (test (λ x. entry_log x d) (ac_table d))
unfolding computing ac_table
ac_climbs Eight = tt
ac_climbs Ten = tt
ac_climbs Twelve = tt

-- the test of the base logs without rate control, over all 768
flat_climbs : (d : Depth) → T (test (λ x. flat_log x d) (ac_table d))
unfolding computing ac_table dc_table index
flat_climbs Eight = tt
flat_climbs Ten = tt
flat_climbs Twelve = tt

pub logs_ordered : LogsOrdered
unfolding ac_log flat_base
logs_ordered d = (ordered_by (λ x. entry_log x d) (ac_table d) (ac_size d) (ac_climbs d), ordered_by (λ x. flat_log x d) (ac_table d) (ac_size d) (flat_climbs d))
