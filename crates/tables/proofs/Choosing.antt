-- The four ways in which an index is chosen, from what a search knows where it ends.
use Rattle.std.proofs.Common.{◌≡◌, ℕ, zero, suc, ◌+◌, ◌-◌, ◌*◌, ◌<◌, ◌≤◌, Bool, true, false, cond, ltb, List, [], ◌∷◌, length, get_or, ℤ, pos, ◌*ℤ◌, nat_abs, ◌≤ℤ◌, ◌<ℤ◌, sym, refl, ap, ◌∙◌, subst, inl, inr, le_of_suc-le-suc, not-suc-le-zero, arith}
use lib.Signed.{lt_z, le_z}
use Rattle.std.proofs.lemmas.Int.{ints, by_lt_z}
use Rattle.std.proofs.lemmas.Bool.{cases_order, cases_lt, cond-true, cond-false, lt-ltb, le-ltb}
use Rattle.tables.specs.Choice.{Table, Chosen, step, under, nearer, index, OneIndex}

module _ (t : List ℕ) (tab : Table t) where
  up_to : (i j : ℕ) → i ≤ j → j < 256 → get_or t i 0 ≤ get_or t j 0
  up_to = tab.rises

  pub chosen_low : (q : ℤ) → q <ℤ pos (get_or t 0 0) → Chosen t q 0
  chosen_low q h =
      record {
        low = λ _. refl;
        high = λ k. let u = up_to 0 255 (omega arith) (omega arith) in omega (arith, ints);
        hit = λ k l e _ _. let u = up_to 0 k (omega arith) l in omega (arith, ints);
        between = λ k l a b. let u = up_to 0 k (omega arith) (omega arith) in absurd (omega (arith, ints));
      }

  pub chosen_high : (q : ℤ) → pos (get_or t 255 0) ≤ℤ q → Chosen t q 255
  chosen_high q h =
      record {
        low = λ k. let u = up_to 0 255 (omega arith) (omega arith) in omega (arith, ints);
        high = λ _. refl;
        hit = λ k l e b n. omega (arith, ints);
        between = λ k l a b. let u = up_to (k + 1) 255 (omega arith) (omega arith) in absurd (omega (arith, ints));
      }

  pub chosen_hit : (q : ℤ) (n i : ℕ) → q ≡ pos n → i < 256 → get_or t i 0 ≡ n → (0 < i → get_or t (i - 1) 0 < n) → n < get_or t 255 0 → Chosen t q i
  chosen_hit q n i s l e before below =
      record {
        low = λ k. let u = up_to 0 i (omega arith) l in omega (arith, ints);
        high = λ k. omega (arith, ints);
        hit = λ k kl ke first _.
            elim (cases_order i k) [
              | inl same ↦ same
              | inr (inl less) ↦ let f = first i less in omega (arith, ints)
              | inr (inr more) ↦ let f = before (omega arith) in let u = up_to k (i - 1) (omega arith) (omega arith) in omega (arith, ints)
            ];
        between = λ k kl a b.
            elim (cases_lt k i) [
              | inl less ↦ let u = up_to (k + 1) i (omega arith) l in absurd (omega (arith, ints))
              | inr more ↦ let u = up_to i k more (omega arith) in absurd (omega (arith, ints))
            ];
      }

  pub chosen_between : (q : ℤ) (n i : ℕ) → q ≡ pos n → 0 < i → i < 256 → get_or t (i - 1) 0 < n → n < get_or t i 0
      → Chosen t q (cond (ltb (n * n) (get_or t (i - 1) 0 * get_or t i 0)) (i - 1) i)
  chosen_between q n i s p l a b =
      record {
        low = λ k. let u = up_to 0 (i - 1) (omega arith) (omega arith) in absurd (omega (arith, ints));
        high = λ k. let u = up_to i 255 (omega arith) (omega arith) in absurd (omega (arith, ints));
        hit = λ k kl ke _ _.
            elim (cases_lt k i) [
              | inl less ↦ let u = up_to k (i - 1) (omega arith) (omega arith) in absurd (omega (arith, ints))
              | inr more ↦ let u = up_to i k more kl in absurd (omega (arith, ints))
            ];
        between = λ k kl x y.
            let here : k ≡ i - 1 =
            elim (cases_order k (i - 1)) [
              | inl same ↦ same
              | inr (inl less) ↦ let u = up_to (k + 1) (i - 1) (omega arith) (omega arith) in omega (arith, ints)
              | inr (inr more) ↦ let u = up_to i k (omega arith) (omega arith) in omega (arith, ints)
            ] in
            let next : k + 1 ≡ i = omega arith in
            rw (s, next, here);
      }

  pub chosen_lower : (q : ℤ) (n i : ℕ) → q ≡ pos n → 0 < i → i < 256 → get_or t (i - 1) 0 < n → n < get_or t i 0 → n * n < get_or t (i - 1) 0 * get_or t i 0 → Chosen t q (i - 1)
  chosen_lower q n i s p l a b m =
      subst (Chosen t q) (cond-true (ltb (n * n) (get_or t (i - 1) 0 * get_or t i 0)) (i - 1) i (lt-ltb (n * n) (get_or t (i - 1) 0 * get_or t i 0) m)) (chosen_between q n i s p l a b)

  pub chosen_upper : (q : ℤ) (n i : ℕ) → q ≡ pos n → 0 < i → i < 256 → get_or t (i - 1) 0 < n → n < get_or t i 0 → get_or t (i - 1) 0 * get_or t i 0 ≤ n * n → Chosen t q i
  chosen_upper q n i s p l a b m =
      subst (Chosen t q) (cond-false (ltb (n * n) (get_or t (i - 1) 0 * get_or t i 0)) (i - 1) i (le-ltb (n * n) (get_or t (i - 1) 0 * get_or t i 0) m)) (chosen_between q n i s p l a b)

-- what `under` counts
under_le : (q : ℤ) (t : List ℕ) → under q t ≤ length t
under_le q [] = omega arith
under_le q (x ∷ xs) = go (lt_z (pos x) q) (under_le q xs)
  where
    go : (b : Bool) → under q xs ≤ length xs → step b (under q xs) ≤ suc (length xs)
    go true h = omega arith
    go false h = omega arith

under_before : (q : ℤ) (t : List ℕ) (j : ℕ) → j < under q t → pos (get_or t j 0) <ℤ q
under_before q [] j h = absurd (not-suc-le-zero h)
under_before q (x ∷ xs) j h = go (lt_z (pos x) q) (λ e. grind (arith, ints)) (under_before q xs) j h
  where
    go : (b : Bool) → (b ≡ true → pos x <ℤ q) → ((j : ℕ) → j < under q xs → pos (get_or xs j 0) <ℤ q) → (j : ℕ) → j < step b (under q xs) → pos (get_or (x ∷ xs) j 0) <ℤ q
    go true e r zero h = e refl
    go true e r (suc j) h = r j (le_of_suc-le-suc h)
    go false e r j h = absurd (not-suc-le-zero h)

under_at : (q : ℤ) (t : List ℕ) → under q t < length t → q ≤ℤ pos (get_or t (under q t) 0)
under_at q [] h = absurd (not-suc-le-zero h)
under_at q (x ∷ xs) h = go (lt_z (pos x) q) (λ e. grind (arith, ints)) (under_at q xs) h
  where
    go : (b : Bool) → (b ≡ false → q ≤ℤ pos x) → (under q xs < length xs → q ≤ℤ pos (get_or xs (under q xs) 0)) → step b (under q xs) < suc (length xs) → q ≤ℤ pos (get_or (x ∷ xs) (step b (under q xs)) 0)
    go true e r h = r (le_of_suc-le-suc h)
    go false e r h = e refl

not_le_z : (a b : ℤ) → a <ℤ b → le_z b a ≡ false
not_le_z a b h = grind (arith, ints)

yes_le_z : (a b : ℤ) → a ≤ℤ b → le_z a b ≡ true
yes_le_z a b h = grind (arith, ints)

-- between the first entry and the last
module _ (t : List ℕ) (tab : Table t) (q : ℤ) (g : pos (get_or t 0 0) ≤ℤ q) (h : q <ℤ pos (get_or t 255 0)) where
  inside : index t q ≡ nearer t q (under q t)
  unfolding index
  inside = grind (arith, ints)

  some : under q t < 256
  some = elim (cases_lt (under q t) 256) [ inl y ↦ y | inr z ↦ let b = under_before q t 255 z in omega (arith, ints) ]

  at : q ≤ℤ pos (get_or t (under q t) 0)
  at = let n = tab.size in let s = some in under_at q t (omega arith)

  more : q <ℤ pos (get_or t (under q t) 0) → 0 < under q t
  more lt =
      elim (cases_lt 0 (under q t)) [
        | inl y ↦ y
        | inr z ↦ let e : under q t ≡ 0 = omega arith in let l : q <ℤ pos (get_or t 0 0) = subst (λ (k : ℕ). q <ℤ pos (get_or t k 0)) e lt in omega (arith, ints)
      ]

  middle : (i : ℕ) → Chosen t q i → i ≡ nearer t q (under q t)
  middle i c =
      by_lt_z q (pos (get_or t (under q t) 0))
      (λ lt.
      let k = under q t in
      let s = some in
      let m = more lt in
      let b = under_before q t (k - 1) (omega arith) in
      let e : k - 1 + 1 ≡ k = omega arith in
      let r = c.between (k - 1) (omega arith) b (rw e lt) in
      let r' = rw e at r in
      let f : le_z (pos (get_or t k 0)) q ≡ false = not_le_z q (pos (get_or t k 0)) lt in
      rw f r')
      (λ ge.
      let k = under q t in
      let a = at in
      let e : pos (get_or t k 0) ≡ q = omega (arith, ints) in
      let r = c.hit k some e (under_before q t) h in
      grind (arith, ints))

  a_number : q ≡ pos (nat_abs q)
  a_number = grind (arith, ints)

  middle_chosen : Chosen t q (nearer t q (under q t))
  middle_chosen =
      let k = under q t in
      let s = some in
      let n = nat_abs q in
      let e = a_number in
      by_lt_z q (pos (get_or t k 0))
      (λ lt.
      let m = more lt in
      let b = under_before q t (k - 1) (omega arith) in
      let f : le_z (pos (get_or t k 0)) q ≡ false = not_le_z q (pos (get_or t k 0)) lt in
      let u : Chosen t q (cond (ltb (n * n) (get_or t (k - 1) 0 * get_or t k 0)) (k - 1) k) =
      chosen_between t tab q n k e m s (grind (arith, ints)) (grind (arith, ints)) in
      let w : lt_z (q *ℤ q) (pos (get_or t (k - 1) 0 * get_or t k 0)) ≡ ltb (n * n) (get_or t (k - 1) 0 * get_or t k 0) =
      ap (λ (z : ℤ). lt_z (z *ℤ z) (pos (get_or t (k - 1) 0 * get_or t k 0))) e in
      rw (f, w) u)
      (λ ge.
      let a = at in
      let f : le_z (pos (get_or t k 0)) q ≡ true = yes_le_z (pos (get_or t k 0)) q ge in
      let u : Chosen t q k =
      chosen_hit t tab q n k e s (grind (arith, ints)) (λ p. let b = under_before q t (k - 1) (omega arith) in grind (arith, ints)) (grind (arith, ints)) in
      rw f u)

outside_low : (t : List ℕ) (q : ℤ) → q <ℤ pos (get_or t 0 0) → index t q ≡ 0
unfolding index
outside_low t q h = grind (arith, ints)

outside_high : (t : List ℕ) (q : ℤ) → pos (get_or t 0 0) ≤ℤ q → pos (get_or t 255 0) ≤ℤ q → index t q ≡ 255
unfolding index
outside_high t q g h = grind (arith, ints)

-- the rules decide
pub index_is : (t : List ℕ) → Table t → (q : ℤ) (i : ℕ) → Chosen t q i → i ≡ index t q
index_is t tab q i c =
    by_lt_z q (pos (get_or t 0 0))
    (λ h. c.low h ∙ sym (outside_low t q h))
    (λ g. by_lt_z q (pos (get_or t 255 0))
    (λ h. middle t tab q g h i c ∙ sym (inside t tab q g h))
    (λ h. c.high h ∙ sym (outside_high t q g h)))

index_chosen : (t : List ℕ) → Table t → (q : ℤ) → Chosen t q (index t q)
index_chosen t tab q =
    by_lt_z q (pos (get_or t 0 0))
    (λ h. subst (Chosen t q) (sym (outside_low t q h)) (chosen_low t tab q h))
    (λ g. by_lt_z q (pos (get_or t 255 0))
    (λ h. subst (Chosen t q) (sym (inside t tab q g h)) (middle_chosen t tab q g h))
    (λ h. subst (Chosen t q) (sym (outside_high t q g h)) (chosen_high t tab q h)))

pub one_index : OneIndex
one_index t tab q = (index_chosen t tab q, index_is t tab q)
