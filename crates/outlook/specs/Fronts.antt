-- The front part that counting covers: one entry more, over a whole part, and within a part.
use Rattle.std.specs.Prelude.{◌≡◌, ℕ, ◌+◌, ◌-◌, ◌<◌, ◌≤◌, false, cond, List, [], ◌∷◌, ◌++◌, length, take, drop, count_by, ◌==◌, nat_eq, slice_index, slice_index_or, refl}
use Rattle.std.proofs.Common.{sym, ap, ◌∙◌, arith}
use Rattle.std.proofs.lemmas.List.{take_more, drop_more, drop_all, append-nil, append_assoc}
use Rattle.std.proofs.lemmas.List.Sums.{sum_by-cons}
use Rattle.std.proofs.lemmas.Bool.{ne_eqb, cond_both}
use Rattle.outlook.specs.Bytes.{is_shown, unit, front}

pub front_none : (xs : List ℕ) → front 0 xs ≡ []
front_none [] = refl
front_none (x ∷ xs) = refl

-- where units are left, the next entry is in
pub front_cons : (u x : ℕ) (xs : List ℕ) → 0 < u → front u (x ∷ xs) ≡ x ∷ front (u - unit x) xs
front_cons u x xs h =
    let f : nat_eq u 0 ≡ false = ne_eqb u 0 (λ e. omega arith) in
    ap (λ b. cond b [] (x ∷ front (u - unit x) xs)) f

-- a walk that has passed i entries, of which s are shown
pub front_more : (xs : List ℕ) (i u s : ℕ) → i < length xs → s < u
    → take i xs ++ front (u - s) (drop i xs) ≡ front u xs
    → take (i + 1) xs ++ front (u - (s + unit (slice_index xs i))) (drop (i + 1) xs) ≡ front u xs
front_more xs i u s h l e =
    let x : ℕ = slice_index_or xs i 0 in
    let left : 0 < u - s = omega arith in
    let n : u - s - unit x ≡ u - (s + unit x) = omega arith in
    ap (λ ys. ys ++ front (u - (s + unit x)) (drop (i + 1) xs)) (take_more xs i 0 h)
    ∙ append_assoc (take i xs) (x ∷ []) (front (u - (s + unit x)) (drop (i + 1) xs))
    ∙ ap (λ m. take i xs ++ x ∷ front m (drop (i + 1) xs)) (sym n)
    ∙ ap (λ ys. take i xs ++ ys) (sym (front_cons (u - s) x (drop (i + 1) xs) left))
    ∙ ap (λ ys. take i xs ++ front (u - s) ys) (sym (drop_more xs i 0 h))
    ∙ e

-- it ends where the units are reached
pub front_reached : (xs : List ℕ) (i u s : ℕ) → s ≡ u → take i xs ++ front (u - s) (drop i xs) ≡ front u xs → take i xs ≡ front u xs
front_reached xs i u s l e =
    let z : u - s ≡ 0 = omega arith in
    sym (append-nil (take i xs))
    ∙ ap (λ ys. take i xs ++ ys) (sym (front_none (drop i xs)))
    ∙ ap (λ n. take i xs ++ front n (drop i xs)) (sym z)
    ∙ e

-- and where the list ends
pub front_ended : (xs : List ℕ) (i u s : ℕ) → length xs ≤ i → take i xs ++ front (u - s) (drop i xs) ≡ front u xs → take i xs ≡ front u xs
front_ended xs i u s l e =
    sym (append-nil (take i xs))
    ∙ ap (λ ys. take i xs ++ front (u - s) ys) (sym (drop_all i xs l))
    ∙ e

-- a part with fewer shown entries than the units is wholly in
pub front_over : (ys zs : List ℕ) (u : ℕ) → count_by is_shown ys < u → front u (ys ++ zs) ≡ ys ++ front (u - count_by is_shown ys) zs
front_over [] zs u h = ap (λ n. front n zs) (omega arith)
front_over (y ∷ ys) zs u h =
    let c = sum_by-cons unit y ys in
    let in' : count_by is_shown ys < u - unit y = omega (arith, c) in
    let n : u - unit y - count_by is_shown ys ≡ u - count_by is_shown (y ∷ ys) = omega (arith, c) in
    front_cons u y (ys ++ zs) (omega arith)
    ∙ ap (λ l. y ∷ l) (front_over ys zs (u - unit y) in')
    ∙ ap (λ m. y ∷ (ys ++ front m zs)) n

-- a part with as many shown entries as the units holds the front part
pub front_within : (ys zs : List ℕ) (u : ℕ) → u ≤ count_by is_shown ys → front u (ys ++ zs) ≡ front u ys
front_within [] zs u h = let z : u ≡ 0 = omega arith in ap (λ n. front n zs) z ∙ front_none zs
front_within (y ∷ ys) zs u h =
    let c = sum_by-cons unit y ys in
    let in' : u - unit y ≤ count_by is_shown ys = omega (arith, c) in
    ap (λ l. cond (u == 0) [] (y ∷ l)) (front_within ys zs (u - unit y) in')

-- all of a list with fewer shown entries than the units
pub front_all : (xs : List ℕ) (u : ℕ) → count_by is_shown xs < u → front u xs ≡ xs
front_all xs u h = ap (front u) (sym (append-nil xs)) ∙ front_over xs [] u h ∙ append-nil xs

-- no longer than the list
pub front_short : (u : ℕ) (xs : List ℕ) → length (front u xs) ≤ length xs
front_short u [] = omega arith
front_short u (x ∷ xs) =
    cond_both (u == 0) [] (x ∷ front (u - unit x) xs) (λ (ys : List ℕ). length ys ≤ length (x ∷ xs)) (λ _. omega arith) (λ _. omega (arith, front_short (u - unit x) xs))
