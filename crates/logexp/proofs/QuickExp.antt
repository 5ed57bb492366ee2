-- The exponential's first 34 turns on natural numbers, quicker to compute: z has 2^63 added, and the steps,
-- constants and factors stand in a list.
use Rattle.std.proofs.Common.{◌≡◌, ℕ, zero, suc, ◌+◌, ◌-◌, ◌*◌, ◌/◌, ◌^◌, ◌<◌, ◌≤◌, true, false, ltb, ◌⊎◌, List, [], ◌∷◌, ℤ, pos, ◌+ℤ◌, ◌-ℤ◌, ◌*ℤ◌, neg_ℤ, nat_abs, ◌≤ℤ◌, ◌<ℤ◌, sym, refl, ap, ◌∙◌, subst, inl, inr, arith, le-ltb, lt-ltb}
use Rattle.std.proofs.lemmas.Int.{ints}
use Rattle.std.proofs.lemmas.Nat.{shr_le}
use Rattle.logexp.specs.Cordic.{step, atanh, shr}
use Rattle.logexp.specs.LogExp.{factor, turned, exp_turn, exp_turns, computing}
use Rattle.logexp.specs.Bounds.{ExpIn}
use Rattle.logexp.specs.declared.exp.Exp.{Exp}
use Rattle.logexp.proofs.TableRules.{atanh_small}
use Rattle.logexp.proofs.ExpTurns.{along_neg, along_pos, factor_is, turned_small, exp_turns_in}
use Rattle.logexp.proofs.Walks.{sign_of}

-- 2^(step + 1), the constant and the factor of z, turn by turn
unfoldable pub exp_entries : List (ℕ × ℕ × ℕ)
exp_entries =
    (2 ^ 1, 3654674702153732340, 2) ∷ (2 ^ 2, 3398653926678325526, 2) ∷ (2 ^ 3, 3344118731597134342, 2) ∷
    (2 ^ 4, 3330970002169684708, 1) ∷ (2 ^ 4, 3330970002169684708, 2) ∷ (2 ^ 5, 3327711796216093839, 2) ∷
    (2 ^ 6, 3326899035826520001, 2) ∷ (2 ^ 7, 3326695957365225691, 2) ∷ (2 ^ 8, 3326645194722366962, 2) ∷
    (2 ^ 9, 3326632504497356524, 2) ∷ (2 ^ 10, 3326629331968334262, 2) ∷ (2 ^ 11, 3326628538837780574, 2) ∷
    (2 ^ 12, 3326628340555248520, 2) ∷ (2 ^ 13, 3326628290984622154, 1) ∷ (2 ^ 13, 3326628290984622154, 2) ∷
    (2 ^ 14, 3326628278591965978, 2) ∷ (2 ^ 15, 3326628275493801960, 2) ∷ (2 ^ 16, 3326628274719260957, 2) ∷
    (2 ^ 17, 3326628274525625706, 2) ∷ (2 ^ 18, 3326628274477216894, 2) ∷ (2 ^ 19, 3326628274465114691, 2) ∷
    (2 ^ 20, 3326628274462089140, 2) ∷ (2 ^ 21, 3326628274461332752, 2) ∷ (2 ^ 22, 3326628274461143655, 2) ∷
    (2 ^ 23, 3326628274461096381, 2) ∷ (2 ^ 24, 3326628274461084562, 2) ∷ (2 ^ 25, 3326628274461081608, 2) ∷
    (2 ^ 26, 3326628274461080869, 2) ∷ (2 ^ 27, 3326628274461080684, 2) ∷ (2 ^ 28, 3326628274461080638, 2) ∷
    (2 ^ 29, 3326628274461080627, 2) ∷ (2 ^ 30, 3326628274461080624, 2) ∷ (2 ^ 31, 3326628274461080623, 2) ∷
    (2 ^ 32, 3326628274461080623, 2) ∷ []

unfoldable made : ℕ → ℕ → List (ℕ × ℕ × ℕ)
made zero k = []
made (suc n) k = (2 ^ (step k + 1), atanh (step k), factor k) ∷ made n (suc k)

entries_made : exp_entries ≡ made 34 0
unfolding exp_entries made computing
entries_made = refl

unfoldable pub quick_exp : List (ℕ × ℕ × ℕ) → ℕ → ℕ → ℕ
quick_exp [] w z = w
quick_exp (e ∷ es) w z = elim (ltb z (2 ^ 63)) [
  | true ↦ quick_exp es (w - w / e.0) ((z + e.1) * e.2 + 2 ^ 63 - 2 ^ 63 * e.2)
  | false ↦ quick_exp es (w + w / e.0) ((z - e.1) * e.2 + 2 ^ 63 - 2 ^ 63 * e.2)
]

-- the state as natural numbers
record As (e : Exp) (w z : ℕ) : Type 0 where
  pub w_is : e.w ≡ pos w
  pub z_is : e.z +ℤ pos (2 ^ 63) ≡ pos z

z_below : (z : ℤ) (a f b : ℕ) → (f ≡ 1) ⊎ (f ≡ 2) → z +ℤ pos (2 ^ 63) ≡ pos b → nat_abs ((z -ℤ neg_ℤ (pos a)) *ℤ pos f) < 2 ^ 63 → ((z -ℤ neg_ℤ (pos a)) *ℤ pos f) +ℤ pos (2 ^ 63) ≡ pos ((b + a) * f + 2 ^ 63 - 2 ^ 63 * f)
z_below z a f b (inl e) h g = let g' = rw e at g in rw e (omega (arith, ints))
z_below z a f b (inr e) h g = let g' = rw e at g in rw e (omega (arith, ints))

z_above : (z : ℤ) (a f b : ℕ) → (f ≡ 1) ⊎ (f ≡ 2) → a ≤ b → z +ℤ pos (2 ^ 63) ≡ pos b → nat_abs ((z -ℤ pos a) *ℤ pos f) < 2 ^ 63 → ((z -ℤ pos a) *ℤ pos f) +ℤ pos (2 ^ 63) ≡ pos ((b - a) * f + 2 ^ 63 - 2 ^ 63 * f)
z_above z a f b (inl e) l h g = let g' = rw e at g in rw e (omega (arith, ints))
z_above z a f b (inr e) l h g = let g' = rw e at g in rw e (omega (arith, ints))

next_below : (k : ℕ) (e : Exp) (w z : ℕ) → k < 34 → ExpIn k e → e.z <ℤ pos 0 → As e w z → As (exp_turn k e) (w - w / 2 ^ (step k + 1)) ((z + atanh (step k)) * factor k + 2 ^ 63 - 2 ^ 63 * factor k)
unfolding exp_turn turned
next_below k e w z h i s a =
    let t = along_neg e.z (pos (atanh (step k))) s in
    let g : nat_abs (turned k e.z) < 2 ^ 63 = turned_small k e.z (omega arith) i.z_in in
    let g' : nat_abs ((e.z -ℤ neg_ℤ (pos (atanh (step k)))) *ℤ pos (factor k)) < 2 ^ 63 = subst (λ (v : ℤ). nat_abs ((e.z -ℤ v) *ℤ pos (factor k)) < 2 ^ 63) t g in
    let q : shr e.w (step k + 1) ≡ pos (w / 2 ^ (step k + 1)) = ap (λ (v : ℤ). shr v (step k + 1)) a.w_is in
    let u = along_neg e.z (shr e.w (step k + 1)) s in
    record {
      w_is = omega (arith, ints, a.w_is, shr_le w (step k + 1));
      z_is = subst (λ (v : ℤ). ((e.z -ℤ v) *ℤ pos (factor k)) +ℤ pos (2 ^ 63) ≡ pos ((z + atanh (step k)) * factor k + 2 ^ 63 - 2 ^ 63 * factor k)) (sym t) (z_below e.z (atanh (step k)) (factor k) z (factor_is k) a.z_is g');
    }

next_above : (k : ℕ) (e : Exp) (w z : ℕ) → k < 34 → ExpIn k e → pos 0 ≤ℤ e.z → As e w z → As (exp_turn k e) (w + w / 2 ^ (step k + 1)) ((z - atanh (step k)) * factor k + 2 ^ 63 - 2 ^ 63 * factor k)
unfolding exp_turn turned
next_above k e w z h i s a =
    let t = along_pos e.z (pos (atanh (step k))) s in
    let g : nat_abs (turned k e.z) < 2 ^ 63 = turned_small k e.z (omega arith) i.z_in in
    let g' : nat_abs ((e.z -ℤ pos (atanh (step k))) *ℤ pos (factor k)) < 2 ^ 63 = subst (λ (v : ℤ). nat_abs ((e.z -ℤ v) *ℤ pos (factor k)) < 2 ^ 63) t g in
    let q : shr e.w (step k + 1) ≡ pos (w / 2 ^ (step k + 1)) = ap (λ (v : ℤ). shr v (step k + 1)) a.w_is in
    let u = along_pos e.z (shr e.w (step k + 1)) s in
    let l : atanh (step k) ≤ z = omega (arith, ints, a.z_is, atanh_small (step k)) in
    record {
      w_is = omega (arith, ints, a.w_is);
      z_is = subst (λ (v : ℤ). ((e.z -ℤ v) *ℤ pos (factor k)) +ℤ pos (2 ^ 63) ≡ pos ((z - atanh (step k)) * factor k + 2 ^ 63 - 2 ^ 63 * factor k)) (sym t) (z_above e.z (atanh (step k)) (factor k) z (factor_is k) l a.z_is g');
    }

quick_turns : (n k : ℕ) (z₀ : ℤ) (w z : ℕ) → nat_abs z₀ ≤ 2 ^ 62 → k + n ≤ 34 → As (exp_turns z₀ k) w z → (exp_turns z₀ (k + n)).w ≡ pos (quick_exp (made n k) w z)
unfolding quick_exp made exp_turns
quick_turns zero k z₀ w z b h a = let e : k + 0 ≡ k = omega arith in ap (λ (j : ℕ). (exp_turns z₀ j).w) e ∙ a.w_is
quick_turns (suc n) k z₀ w z b h a =
    let e : k + suc n ≡ suc k + n = omega arith in
    let i = exp_turns_in z₀ k b (omega arith) in
    elim (sign_of (exp_turns z₀ k).z) [
      | inl s ↦
          rw (lt-ltb z (2 ^ 63) (omega (arith, ints, a.z_is)), quick_exp)
          (ap (λ (j : ℕ). (exp_turns z₀ j).w) e ∙ quick_turns n (suc k) z₀ _ _ b (omega arith) (next_below k (exp_turns z₀ k) w z (omega arith) i s a))
      | inr s ↦
          rw (le-ltb z (2 ^ 63) (omega (arith, ints, a.z_is)), quick_exp)
          (ap (λ (j : ℕ). (exp_turns z₀ j).w) e ∙ quick_turns n (suc k) z₀ _ _ b (omega arith) (next_above k (exp_turns z₀ k) w z (omega arith) i s a))
    ]

-- the power after all the turns for z
unfoldable pub quick_w : ℕ → ℕ
quick_w z = quick_exp exp_entries 0x26A3D0E401DD846D (z + 2 ^ 63)

starts : (z : ℕ) → As (exp_turns (pos z) 0) 0x26A3D0E401DD846D (z + 2 ^ 63)
unfolding exp_turns
starts z = record { w_is = refl; z_is = omega (arith, ints) }

pub quick_w_is : (z : ℕ) → z ≤ 2 ^ 62 → (exp_turns (pos z) 34).w ≡ pos (quick_w z)
unfolding quick_w
quick_w_is z h =
    quick_turns 34 0 (pos z) 0x26A3D0E401DD846D (z + 2 ^ 63) (omega (arith, ints)) (omega arith) (starts z)
    ∙ ap (λ (es : List (ℕ × ℕ × ℕ)). pos (quick_exp es 0x26A3D0E401DD846D (z + 2 ^ 63))) (sym entries_made)
