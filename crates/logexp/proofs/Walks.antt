-- A lower bound of what the turns reach, by a test that computes. A state has a value w, which a turn
-- moves by a part of its own with the sign of z, and the remainder z. The test `covers` takes an
-- interval for z: it is content where the value stays above a target t whatever the signs of the turns
-- that are left, and else splits the interval at the sign of z and asks of both parts after the turn.
use Rattle.std.proofs.Common.{◌≡◌, ℕ, zero, suc, Bool, true, false, ◌&&◌, ◌⊎◌, ℤ, pos, negsuc, ◌+ℤ◌, ◌*ℤ◌, neg_ℤ, ◌≤ℤ◌, ◌<ℤ◌, refl, inl, inr, arith}
use lib.Signed.{lt_z, le_z, ≤ℤ_refl}
use Rattle.std.specs.Int.{int_min, int_max}
use Rattle.std.proofs.lemmas.Int.{ints, clamps}
use Rattle.std.proofs.lemmas.Bool.{and_parts}
use Rattle.logexp.specs.Cordic.{step, atanh, along}
use Rattle.logexp.specs.LogExp.{factor, turned}
use Rattle.logexp.specs.declared.exp.Exp.{Exp}
use Rattle.logexp.proofs.ExpTurns.{along_neg, along_pos, factor_is}

-- the part of the value that turn k moves it by
abbrev pub Parts : Type 0
Parts = ℕ → ℤ → ℤ

-- one turn, and n turns from turn k on
abbrev pub turn : Parts → ℕ → Exp → Exp
turn g k e = record { w = e.w +ℤ along e.z (g k e.w); z = turned k e.z }

unfoldable pub walk : Parts → ℕ → ℕ → Exp → Exp
walk g zero k e = e
walk g (suc n) k e = walk g n (suc k) (turn g k e)

-- the value after n turns that all take their part away
unfoldable pub fall : Parts → ℕ → ℕ → ℤ → ℤ
fall g zero k v = v
fall g (suc n) k v = fall g n (suc k) (v +ℤ neg_ℤ (g k v))

-- b, or else what is asked only where b is false
abbrev pub or_else : Bool → (Unit {0} → Bool) → Bool
or_else true f = true
or_else false f = f tt

pub or_else_cases : (b : Bool) (f : Unit {0} → Bool) → or_else b f ≡ true → (b ≡ true) ⊎ (f tt ≡ true)
or_else_cases true f t = inl refl
or_else_cases false f t = inr t

-- the test, for z from a to b and the value v; after the last turn it asks the leaf
unfoldable pub covers : Parts → ℤ → (ℤ → ℤ → ℤ → Bool) → ℕ → ℕ → ℤ → ℤ → ℤ → Bool
covers g t leaf zero k a b v = or_else (le_z t v) (λ _. leaf a b v)
covers g t leaf (suc n) k a b v =
    or_else (le_z t (fall g (suc n) k v)) (λ _.
    or_else (le_z (pos 0) a) (λ _. covers g t leaf n (suc k) (turned k a) (turned k (int_min b (negsuc 0))) (v +ℤ neg_ℤ (g k v)))
    && or_else (lt_z b (pos 0)) (λ _. covers g t leaf n (suc k) (turned k (int_max a (pos 0))) (turned k b) (v +ℤ g k v)))

-- the parts of values that are Ok are not negative, keep them Ok, and leave more of a greater value
pub record Gentle (Ok : ℤ → Type 0) (g : Parts) : Type 0 where
  pub part : (k : ℕ) (v : ℤ) → Ok v → pos 0 ≤ℤ g k v
  pub next : (k : ℕ) (v s : ℤ) → Ok v → Ok (v +ℤ along s (g k v))
  pub less : (k : ℕ) (v : ℤ) → Ok v → Ok (v +ℤ neg_ℤ (g k v))
  pub more : (k : ℕ) (u v : ℤ) → Ok u → Ok v → u ≤ℤ v → (u +ℤ neg_ℤ (g k u)) ≤ℤ (v +ℤ neg_ℤ (g k v))

pub sign_of : (z : ℤ) → (z <ℤ pos 0) ⊎ (pos 0 ≤ℤ z)
sign_of (pos n) = inr (omega (arith, ints))
sign_of (negsuc n) = inl (omega (arith, ints))

pub le_of : (a b : ℤ) → le_z a b ≡ true → a ≤ℤ b
le_of a b t = grind (arith, ints)

le_trans : (a b c : ℤ) → a ≤ℤ b → b ≤ℤ c → a ≤ℤ c
le_trans a b c h g = omega (arith, ints)

lt_of : (a b : ℤ) → lt_z a b ≡ true → a <ℤ b
lt_of a b t = grind (arith, ints)

-- a turn leaves at least what it can take away
least : (v p s u : ℤ) → pos 0 ≤ℤ p → u ≤ℤ (v +ℤ neg_ℤ p) → u ≤ℤ (v +ℤ along s p)
least v p s u h g =
    elim (sign_of s) [
      | inl n ↦ rw (along_neg s p n) g
      | inr n ↦ rw (along_pos s p n) (omega (arith, ints))
    ]

pub fall_least : {Ok : ℤ → Type 0} {g : Parts} → Gentle Ok g → (n k : ℕ) (e : Exp) (u : ℤ) → Ok u → Ok e.w → u ≤ℤ e.w → fall g n k u ≤ℤ (walk g n k e).w
unfolding fall walk
fall_least {g = g} q zero k e u ou ov h = h
fall_least {g = g} q (suc n) k e u ou ov h =
    fall_least q n (suc k) (turn g k e) (u +ℤ neg_ℤ (g k u)) (q.less k u ou) (q.next k e.w e.z ov)
    (least e.w (g k e.w) e.z _ (q.part k e.w ov) (q.more k u e.w ou ov h))

times_mono : (x y : ℤ) (f : ℕ) → (f ≡ 1) ⊎ (f ≡ 2) → x ≤ℤ y → (x *ℤ pos f) ≤ℤ (y *ℤ pos f)
times_mono x y f (inl e) h = rw e (omega (arith, ints))
times_mono x y f (inr e) h = rw e (omega (arith, ints))

-- on either side of 0 the remainder after a turn grows with the one before
turned_below : (k : ℕ) (x y : ℤ) → x ≤ℤ y → y <ℤ pos 0 → turned k x ≤ℤ turned k y
unfolding turned
turned_below k x y h g =
    rw (along_neg x (pos (atanh (step k))) (omega (arith, ints)), along_neg y (pos (atanh (step k))) g)
    (times_mono _ _ (factor k) (factor_is k) (omega (arith, ints)))

turned_above : (k : ℕ) (x y : ℤ) → pos 0 ≤ℤ x → x ≤ℤ y → turned k x ≤ℤ turned k y
unfolding turned
turned_above k x y g h =
    rw (along_pos x (pos (atanh (step k))) g, along_pos y (pos (atanh (step k))) (omega (arith, ints)))
    (times_mono _ _ (factor k) (factor_is k) (omega (arith, ints)))

-- the leaf was asked of an interval around the remainder, and answered true
pub record Reached (leaf : ℤ → ℤ → ℤ → Bool) (e : Exp) : Type 0 where
  pub from : ℤ
  pub to : ℤ
  pub low : from ≤ℤ e.z
  pub high : e.z ≤ℤ to
  pub told : leaf from to e.w ≡ true

pub covered : {Ok : ℤ → Type 0} {g : Parts} → Gentle Ok g → (t : ℤ) (leaf : ℤ → ℤ → ℤ → Bool) (n k : ℕ) (e : Exp) (a b : ℤ) → Ok e.w → a ≤ℤ e.z → e.z ≤ℤ b → covers g t leaf n k a b e.w ≡ true → (t ≤ℤ (walk g n k e).w) ⊎ Reached leaf (walk g n k e)
unfolding covers walk
covered {g = g} q t leaf zero k e a b ok la lb told =
    elim (or_else_cases (le_z t e.w) (λ _. leaf a b e.w) told) [
      | inl h ↦ inl (le_of t e.w h)
      | inr h ↦ inr (record { from = a; to = b; low = la; high = lb; told = h })
    ]
covered {g = g} q t leaf (suc n) k e a b ok la lb told =
    let v : ℤ = e.w in
    let l : Unit {0} → Bool = λ _. covers g t leaf n (suc k) (turned k a) (turned k (int_min b (negsuc 0))) (v +ℤ neg_ℤ (g k v)) in
    let r : Unit {0} → Bool = λ _. covers g t leaf n (suc k) (turned k (int_max a (pos 0))) (turned k b) (v +ℤ g k v) in
    elim (or_else_cases (le_z t (fall g (suc n) k v)) (λ _. or_else (le_z (pos 0) a) l && or_else (lt_z b (pos 0)) r) told) [
      | inl h ↦ inl (le_trans t _ _ (le_of _ _ h) (fall_least q (suc n) k e v ok ok (≤ℤ_refl v)))
      | inr h ↦
          let both = and_parts (or_else (le_z (pos 0) a) l) (or_else (lt_z b (pos 0)) r) h in
          elim (sign_of e.z) [
            | inl s ↦
                elim (or_else_cases (le_z (pos 0) a) l both.0) [
                  | inl x ↦ absurd (omega (arith, ints, le_of (pos 0) a x))
                  | inr x ↦
                      covered q t leaf n (suc k) (turn g k e) _ _ (q.next k v e.z ok)
                      (turned_below k a e.z la s) (turned_below k e.z (int_min b (negsuc 0)) (omega (arith, ints, clamps)) (omega (arith, ints, clamps)))
                      (rw (along_neg e.z (g k v) s) x)
                ]
            | inr s ↦
                elim (or_else_cases (lt_z b (pos 0)) r both.1) [
                  | inl x ↦ absurd (omega (arith, ints, lt_of b (pos 0) x))
                  | inr x ↦
                      covered q t leaf n (suc k) (turn g k e) _ _ (q.next k v e.z ok)
                      (turned_above k (int_max a (pos 0)) e.z (omega (arith, ints, clamps)) (omega (arith, ints, clamps))) (turned_above k e.z b s lb)
                      (rw (along_pos e.z (g k v) s) x)
                ]
          ]
    ]
