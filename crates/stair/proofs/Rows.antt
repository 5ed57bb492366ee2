-- A row that never rises, and what it predicts.
use Rattle.std.proofs.Common.{◌≡◌, ℕ, zero, suc, ◌^◌, ◌<◌, ◌≤◌, Bool, true, false, cond, ◌&&◌, ltb, leb, List, [], length, get_or, ℤ, pos, negsuc, ◌+ℤ◌, ◌≤ℤ◌, sym, refl, ap, subst, inl, inr, arith}
use lib.Signed.{shr_z}
use Rattle.std.proofs.lemmas.Int.{ints}
use Rattle.std.proofs.lemmas.Bool.{cases_lt}
use Rattle.std.specs.List.{IsAllAdjacentAnswer}
use Rattle.stair.specs.Stairs.{kept, step, descends, lawful_rows}
use Rattle.stair.specs.Laws.{NeverMore}

-- one step more that does not rise
down_suc : (row : List ℕ) (k : ℕ) → get_or row (suc k) 0 ≤ get_or row k 0 → descends row k ≡ true → descends row (suc k) ≡ true
unfolding descends
down_suc row k h g =
    let t : leb (get_or row (suc k) 0) (get_or row k 0) ≡ true = grind arith in
    rw (t, g) refl

-- a row of which none of the first n steps rises
all_down : (row : List ℕ) (n : ℕ) → ((k : ℕ) → k < n → get_or row (suc k) 0 ≤ get_or row k 0) → descends row n ≡ true
unfolding descends
all_down row zero h = refl
all_down row (suc n) h = down_suc row n (h n (omega arith)) (all_down row n (λ k l. h k (omega arith)))

and_true : (a b : Bool) → (a && b) ≡ true → (a ≡ true) × (b ≡ true)
and_true true b h = (refl, h)
and_true false b h =
    let g : ◌≡◌ {A = ℕ} 0 1 = ap (λ (t : Bool). cond t 1 0) h in
    absurd (omega (arith, g))

-- a row of which none of the first n steps rises has no rising step k below n
no_rise : (row : List ℕ) (n : ℕ) → descends row n ≡ true → (k : ℕ) → k < n → get_or row (suc k) 0 ≤ get_or row k 0
unfolding descends
no_rise row zero h k l = absurd (omega arith)
no_rise row (suc n) h k l =
    let b = and_true (leb (get_or row (suc n) 0) (get_or row n 0)) (descends row n) h in
    elim (cases_lt k n) [
      | inl a ↦ no_rise row n b.1 k a
      | inr a ↦
          let e : n ≡ k = omega arith in
          let g : get_or row (suc n) 0 ≤ get_or row n 0 = grind (arith, b.0) in
          subst (λ (j : ℕ). get_or row (suc j) 0 ≤ get_or row j 0) e g
    ]

-- a row with a rising step is not one that never rises
rise_at : (row : List ℕ) (k : ℕ) → k < 63 → get_or row k 0 < get_or row (suc k) 0 → false ≡ descends row 63
rise_at row k l h = by (descends row 63) refl
  where
    by : (b : Bool) → descends row 63 ≡ b → false ≡ b
    by false e = refl
    by true e =
        let g = no_rise row 63 e k l in
        absurd (omega arith)

-- a row of 64 counts is sorted downwards just where none of its steps rises
pub sorted_down : (row : List ℕ) (r : Bool) → length row ≡ 64 → IsAllAdjacentAnswer (λ x y b. b ≡ leb y x) row r → r ≡ descends row 63
sorted_down row true e h = sym (all_down row 63 (λ k l. grind (arith, h k 0 (omega arith))))
sorted_down row false e (k, l, h) = rise_at row k (omega arith) (grind (arith, h 0))

-- along such a row nothing rises
falls : (row : List ℕ) (n : ℕ) → descends row n ≡ true → (i j : ℕ) → i ≤ j → j ≤ n → get_or row j 0 ≤ get_or row i 0
falls row n h i zero a b =
    let e : 0 ≡ i = omega arith in
    subst (λ (x : ℕ). get_or row 0 0 ≤ get_or row x 0) e (omega arith)
falls row n h i (suc j) a b =
    elim (cases_lt j i) [
      | inl l ↦
          let e : suc j ≡ i = omega arith in
          subst (λ (x : ℕ). get_or row (suc j) 0 ≤ get_or row x 0) e (omega arith)
      | inr l ↦
          let f = falls row n h i j l (omega arith) in
          let g = no_rise row n h j b in
          omega arith
    ]

kept_more : (a b : ℤ) → a ≤ℤ b → kept a ≤ kept b
kept_more (pos n) (pos m) h = omega (arith, ints)
kept_more (pos n) (negsuc m) h = absurd h.le
kept_more (negsuc n) (pos m) h = omega arith
kept_more (negsuc n) (negsuc m) h = omega arith

kept_most : (a : ℤ) → kept a ≤ 63
kept_most (pos n) = omega arith
kept_most (negsuc n) = omega arith

shifted : (q p : ℤ) → q ≤ℤ p → (shr_z q (2 ^ 55) +ℤ pos 24) ≤ℤ (shr_z p (2 ^ 55) +ℤ pos 24)
shifted (pos n) (pos m) h = omega (arith, ints)
shifted (pos n) (negsuc m) h = absurd h.le
shifted (negsuc n) (pos m) h = omega (arith, ints)
shifted (negsuc n) (negsuc m) h = omega (arith, ints)

row_lawful : (rows : List (List ℕ)) → lawful_rows rows ≡ true → (k : ℕ) → k < 4 → descends (get_or rows k []) 63 ≡ true
row_lawful rows h zero l = (and_true _ _ h).0
row_lawful rows h (suc zero) l = (and_true _ _ (and_true (descends (get_or rows 0 []) 63) _ h).1).0
row_lawful rows h (suc (suc zero)) l = (and_true _ _ (and_true (descends (get_or rows 1 []) 63) _ (and_true (descends (get_or rows 0 []) 63) _ h).1).1).0
row_lawful rows h (suc (suc (suc zero))) l = (and_true (descends (get_or rows 2 []) 63) _ (and_true (descends (get_or rows 1 []) 63) _ (and_true (descends (get_or rows 0 []) 63) _ h).1).1).1
row_lawful rows h (suc (suc (suc (suc k)))) l = absurd (omega arith)

pub never_more : (rows : List (List ℕ)) → lawful_rows rows ≡ true → NeverMore (record { rows = rows })
never_more rows h k q p l =
    elim (cases_lt k 4) [
      | inl a ↦
          let t : ltb k 4 ≡ true = grind arith in
          let f = falls (get_or rows k []) 63 (row_lawful rows h k a) (step q) (step p) (kept_more _ _ (shifted q p l)) (kept_most _) in
          rw t (omega arith)
      | inr a ↦
          let t : ltb k 4 ≡ false = grind arith in
          rw t (omega arith)
    ]
