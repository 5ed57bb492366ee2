use Rattle.std.proofs.Common.{◌≡◌, ℕ, zero, suc, ◌+◌, ◌*◌, ◌^◌, ◌≤◌, true, false, ◌⊎◌, ℤ, pos, negsuc, ◌+ℤ◌, ◌-ℤ◌, neg_ℤ, ◌≤ℤ◌, ◌<ℤ◌, refl, subst, inl, inr, ⊎_elim, arith}
use native.Mathlib.Nat.{pow-succ'}
use lib.Signed.{lt_z, shr_z}
use Rattle.std.proofs.lemmas.Int.{ints, by_lt_z}
use Rattle.search.specs.declared.found.Found.{Found}
use Rattle.search.specs.Hunt.{hunt, middle, Crosses, Hits}

pub lt_true : (a b : ℤ) → a <ℤ b → lt_z a b ≡ true
lt_true a b h = grind (arith, ints)

pub le_false : (a b : ℤ) → b ≤ℤ a → lt_z a b ≡ false
le_false a b h = grind (arith, ints)

pub half_is : (z : ℤ) → ((shr_z z 2 +ℤ shr_z z 2) ≤ℤ z) × (z ≤ℤ (shr_z z 2 +ℤ shr_z z 2 +ℤ pos 1))
half_is (pos a) = (omega (arith, ints), omega (arith, ints))
half_is (negsuc a) = (omega (arith, ints), omega (arith, ints))

pub mid_low : (lo hi : ℤ) → lo <ℤ hi → lo ≤ℤ middle lo hi
mid_low lo hi h = let k = half_is (lo +ℤ hi) in omega (arith, ints, k.0, k.1)

pub mid_high : (lo hi : ℤ) → lo <ℤ hi → middle lo hi <ℤ hi
mid_high lo hi h = let k = half_is (lo +ℤ hi) in omega (arith, ints, k.0, k.1)

-- at the end the middle is the upper bound
pub mid_end : (lo hi : ℤ) → hi ≤ℤ lo → lo ≤ℤ (hi +ℤ pos 1) → middle lo hi ≡ hi
mid_end lo hi h n = let k = half_is (lo +ℤ hi) in omega (arith, ints, k.0, k.1)

pub halved : (m n : ℕ) (x y : ℤ) → n ≡ 2 * m → (y +ℤ y) ≤ℤ x → x <ℤ pos n → y <ℤ pos m
halved m n x y e h l = omega (arith, ints)

module _ (p : ℤ → ℤ) (total : ℤ) where
  pub hunt_end : (n : ℕ) (lo hi : ℤ) (k : ℕ) → hi ≤ℤ lo → hunt p total n lo hi k ≡ record { base = middle lo hi; tries = k }
  unfolding hunt
  hunt_end zero lo hi k h = refl
  hunt_end (suc n) lo hi k h = let e = le_false lo hi h in rw e

  pub hunt_more : (n : ℕ) (lo hi : ℤ) (k : ℕ) → lo <ℤ hi → total <ℤ p (middle lo hi) → hunt p total (suc n) lo hi k ≡ hunt p total n (middle lo hi +ℤ pos 1) hi (k + 1)
  unfolding hunt
  hunt_more n lo hi k h m = let e = lt_true lo hi h in let f = lt_true total (p (middle lo hi)) m in rw (e, f)

  pub hunt_less : (n : ℕ) (lo hi : ℤ) (k : ℕ) → lo <ℤ hi → p (middle lo hi) <ℤ total → hunt p total (suc n) lo hi k ≡ hunt p total n lo (middle lo hi -ℤ pos 1) (k + 1)
  unfolding hunt
  hunt_less n lo hi k h m = let e = lt_true lo hi h in let f = lt_true (p (middle lo hi)) total m in let d = le_false total (p (middle lo hi)) (omega (arith, ints)) in rw (e, d, f)

  pub hunt_same : (n : ℕ) (lo hi : ℤ) (k : ℕ) → lo <ℤ hi → p (middle lo hi) ≡ total → hunt p total (suc n) lo hi k ≡ record { base = middle lo hi; tries = k + 1 }
  unfolding hunt
  hunt_same n lo hi k h m = let e = lt_true lo hi h in let f = le_false (p (middle lo hi)) total (omega (arith, ints)) in let d = le_false total (p (middle lo hi)) (omega (arith, ints)) in rw (e, d, f)

  pub hunt_tries : (n : ℕ) (lo hi : ℤ) (k : ℕ) → (hunt p total n lo hi k).tries ≤ k + n
  unfolding hunt
  hunt_tries zero lo hi k = omega arith
  hunt_tries (suc n) lo hi k =
      let a = hunt_tries n (middle lo hi +ℤ pos 1) hi (k + 1) in
      let b = hunt_tries n lo (middle lo hi -ℤ pos 1) (k + 1) in
      grind arith

  module _ (bottom top : ℤ) where
    -- what is known of the two ends
    abbrev pub Low : ℤ → Type 0
    Low lo = (lo ≤ℤ bottom) ⊎ (total <ℤ p (lo -ℤ pos 1))

    abbrev pub High : ℤ → Type 0
    High hi = (top ≤ℤ hi) ⊎ (p (hi +ℤ pos 1) <ℤ total)

    low_next : (x : ℤ) → total <ℤ p x → Low (x +ℤ pos 1)
    low_next x m = let z : x ≡ x +ℤ pos 1 -ℤ pos 1 = omega (arith, ints) in inr (subst (λ (y : ℤ). total <ℤ p y) z m)

    high_next : (x : ℤ) → p x <ℤ total → High (x -ℤ pos 1)
    high_next x m = let z : x ≡ x -ℤ pos 1 +ℤ pos 1 = omega (arith, ints) in inr (subst (λ (y : ℤ). p y <ℤ total) z m)

    pub ends : (lo hi : ℤ) → Low lo → High hi → hi ≤ℤ lo → lo ≤ℤ (hi +ℤ pos 1) → Crosses p total bottom top hi
    ends lo hi l h e n = record {
      above = h;
      below = ⊎_elim (λ (a : lo ≤ℤ bottom). inl (omega (arith, ints)))
          (λ (m : total <ℤ p (lo -ℤ pos 1)). by_lt_z hi lo
          (λ q. let z : lo -ℤ pos 1 ≡ hi = omega (arith, ints) in inr (inl (rw z at m)))
          (λ q. let z : lo ≡ hi = omega (arith, ints) in inr (inr (rw z at m)))) l;
    }

    pub hunt_hits : (n : ℕ) (lo hi : ℤ) (k : ℕ) → Low lo → High hi → lo ≤ℤ (hi +ℤ pos 1) → (hi -ℤ lo +ℤ pos 1) <ℤ pos (2 ^ suc n) → Hits p total bottom top (hunt p total n lo hi k).base
    hunt_hits zero lo hi k l h n w =
        let s : hi ≤ℤ lo = omega (arith, ints) in
        let e = mid_end lo hi s n in
        rw (hunt_end zero lo hi k s, e) (inr (ends lo hi l h s n))
    hunt_hits (suc n) lo hi k l h near w =
        by_lt_z lo hi
        (λ s.
        let a = mid_low lo hi s in
        let b = mid_high lo hi s in
        let v = half_is (lo +ℤ hi) in
        by_lt_z total (p (middle lo hi))
        (λ m. let q : Low (middle lo hi +ℤ pos 1) = low_next (middle lo hi) m in
        rw (hunt_more n lo hi k s m) (hunt_hits n (middle lo hi +ℤ pos 1) hi (k + 1) q h (omega (arith, ints)) (halved (2 ^ suc n) (2 ^ suc (suc n)) (hi -ℤ lo +ℤ pos 1) _ (pow-succ' 2 (suc n)) (omega (arith, ints, v.0, v.1)) w)))
        (λ m. by_lt_z (p (middle lo hi)) total
        (λ m2. let q : High (middle lo hi -ℤ pos 1) = high_next (middle lo hi) m2 in
        rw (hunt_less n lo hi k s m2) (hunt_hits n lo (middle lo hi -ℤ pos 1) (k + 1) l q (omega (arith, ints)) (halved (2 ^ suc n) (2 ^ suc (suc n)) (hi -ℤ lo +ℤ pos 1) _ (pow-succ' 2 (suc n)) (omega (arith, ints, v.0, v.1)) w)))
        (λ m2. let z : p (middle lo hi) ≡ total = omega (arith, ints) in rw (hunt_same n lo hi k s z) (inl z))))
        (λ s. let e = mid_end lo hi s near in rw (hunt_end (suc n) lo hi k s, e) (inr (ends lo hi l h s near)))

    -- what the contract says, of the definition
    pub found_hits : neg_ℤ (pos (2 ^ 60)) <ℤ bottom → top <ℤ pos (2 ^ 60) → bottom ≤ℤ top → (r : Found) → r ≡ hunt p total 60 bottom top 0 → Hits p total bottom top r.base
    found_hits l h o r e = rw e (hunt_hits 60 bottom top 0 (inl (omega (arith, ints))) (inl (omega (arith, ints))) (omega (arith, ints)) (omega (arith, ints)))

    pub found_few : (r : Found) → r ≡ hunt p total 60 bottom top 0 → r.tries ≤ 60
    found_few r e = rw e (omega (arith, hunt_tries 60 bottom top 0))
