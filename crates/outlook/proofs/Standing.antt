-- The laws of the front part and of the counts, by induction over the list.
use Rattle.std.proofs.Common.{◌≡◌, ℕ, zero, suc, ◌+◌, ◌-◌, ◌%◌, ◌<◌, ◌≤◌, Bool, true, false, cond, eqb, ltb, List, [], ◌∷◌, ◌++◌, length, take, count_by, sym, refl, ap, ◌∙◌, subst, ⊎_elim, arith}
use Rattle.std.specs.List.{AllByRecursion}
use Rattle.std.proofs.lemmas.List.Sums.{sum_by-cons}
use Rattle.std.proofs.lemmas.Bool.{cond_both, eqb-true, eqb-false, cases_eq}
use Rattle.std.proofs.lemmas.Bool.Decides.{nat_tests}
use Rattle.outlook.specs.Bytes.{is_kind, is_frame, is_shown, Lawful, unit, front}
use Rattle.outlook.specs.Counting.{tally, kind}
use Rattle.outlook.specs.Laws.{FrontStands, TallyStands}
use Rattle.outlook.specs.Fronts.{front_none, front_cons, front_all}
use Rattle.outlook.proofs.Walks.{unit_most}

prefix : (u : ℕ) (xs : List ℕ) → (rest : List ℕ) × (front u xs ++ rest ≡ xs)
prefix u [] = ([], refl)
prefix u (x ∷ xs) =
    let p = prefix (u - unit x) xs in
    cond_both (eqb u 0) [] (x ∷ front (u - unit x) xs) (λ (ys : List ℕ). (rest : List ℕ) × (ys ++ rest ≡ x ∷ xs))
    (λ _. (x ∷ xs, refl))
    (λ _. (p.0, ap (λ l. x ∷ l) p.1))

most : (u : ℕ) (xs : List ℕ) → count_by is_shown (front u xs) ≤ u
most u [] = omega arith
most u (x ∷ xs) =
    cond_both (eqb u 0) [] (x ∷ front (u - unit x) xs) (λ (ys : List ℕ). count_by is_shown ys ≤ u)
    (λ _. omega arith)
    (λ e. let ne = eqb-false u 0 e in omega (arith, sum_by-cons unit x (front (u - unit x) xs), most (u - unit x) xs, unit_most (is_shown x)))

reached : (u : ℕ) (xs : List ℕ) → u ≤ count_by is_shown xs → count_by is_shown (front u xs) ≡ u
reached u [] h = omega arith
reached u (x ∷ xs) h =
    let c = sum_by-cons unit x xs in
    let r = reached (u - unit x) xs (omega arith) in
    cond_both (eqb u 0) [] (x ∷ front (u - unit x) xs) (λ (ys : List ℕ). count_by is_shown ys ≡ u)
    (λ e. let z = eqb-true u 0 e in omega arith)
    (λ e. let ne = eqb-false u 0 e in omega (arith, sum_by-cons unit x (front (u - unit x) xs), unit_most (is_shown x)))

shortest : (u : ℕ) (xs : List ℕ) (n : ℕ) → u ≤ count_by is_shown (take n xs) → length (front u xs) ≤ n
shortest u [] n h = omega arith
shortest u (x ∷ xs) zero h =
    let z : u ≡ 0 = omega arith in
    subst (λ v. length (front v (x ∷ xs)) ≤ 0) (sym z) (omega arith)
shortest u (x ∷ xs) (suc n) h =
    let c = sum_by-cons unit x (take n xs) in
    let s = shortest (u - unit x) xs n (omega arith) in
    cond_both (eqb u 0) [] (x ∷ front (u - unit x) xs) (λ (ys : List ℕ). length ys ≤ suc n) (λ _. omega arith) (λ _. omega arith)

shown_when : (u : ℕ) (b : Bool) → 0 < u → u - cond b 1 0 ≡ 0 → b ≡ true
shown_when u true h e = refl
shown_when u false h e = absurd (omega arith)

one_before : (x y : ℕ) (zs ys before : List ℕ) → zs ≡ x ∷ ys → ys ≡ before ++ (y ∷ []) → zs ≡ (x ∷ before) ++ (y ∷ [])
one_before x y zs ys before f e = f ∙ ap (λ l. x ∷ l) e

ends : (u : ℕ) (xs : List ℕ) → 0 < u → length (front u xs) < length xs → (before : List ℕ) × (x : ℕ) × (front u xs ≡ before ++ (x ∷ [])) × (is_shown x ≡ true)
ends u [] h l = absurd (omega arith)
ends u (x ∷ xs) h l =
    let f : front u (x ∷ xs) ≡ x ∷ front (u - unit x) xs = front_cons u x xs h in
    let s : length (front u (x ∷ xs)) ≡ suc (length (front (u - unit x) xs)) = ap length f in
    ⊎_elim
    (λ (z : u - unit x ≡ 0).
    ([], x, f ∙ ap (λ n. x ∷ front n xs) z ∙ ap (λ l. x ∷ l) (front_none xs), shown_when u (is_shown x) h z))
    (λ (ne : u - unit x ≡ 0 → ⊥).
    let p = ends (u - unit x) xs (omega arith) (omega arith) in
    (x ∷ p.0, p.1, one_before x p.1 (front u (x ∷ xs)) (front (u - unit x) xs) p.0 f p.2, p.3))
    (cases_eq (u - unit x) 0)

pub front_stands : (u : ℕ) (xs : List ℕ) → FrontStands u xs
front_stands u xs =
    record { prefix = prefix u xs; most = most u xs; reached = reached u xs; whole = front_all xs u; shortest = shortest u xs; ends = ends u xs }

-- one entry is of one of the kinds
frame_one : (k : ℕ) → cond (ltb k 4) 1 0 ≡ cond (eqb k 0) 1 0 + cond (eqb k 1) 1 0 + cond (eqb k 2) 1 0 + cond (eqb k 3) 1 0
frame_one k = grind (arith, nat_tests)

each_one : (x : ℕ) → Lawful x → 1 ≡ cond (is_frame x) 1 0 + cond (is_kind 4 x) 1 0
each_one x h = grind (arith, nat_tests)

shows_one : (x : ℕ) → Lawful x → cond (is_kind 4 x) 1 0 ≤ unit x
shows_one x h = grind (arith, nat_tests)

frames : (xs : List ℕ) → (tally xs).frames ≡ kind 0 (tally xs) + kind 1 (tally xs) + kind 2 (tally xs) + kind 3 (tally xs)
frames [] = refl
frames (x ∷ xs) =
    let a = sum_by-cons (λ y. cond (is_kind 0 y) 1 0) x xs in
    let b = sum_by-cons (λ y. cond (is_kind 1 y) 1 0) x xs in
    let c = sum_by-cons (λ y. cond (is_kind 2 y) 1 0) x xs in
    let d = sum_by-cons (λ y. cond (is_kind 3 y) 1 0) x xs in
    let f = sum_by-cons (λ y. cond (is_frame y) 1 0) x xs in
    omega (arith, frames xs, frame_one (x % 8))

each : (xs : List ℕ) → AllByRecursion Lawful xs → length xs ≡ (tally xs).frames + kind 4 (tally xs)
each [] h = refl
each (x ∷ xs) h =
    let f = sum_by-cons (λ y. cond (is_frame y) 1 0) x xs in
    let d = sum_by-cons (λ y. cond (is_kind 4 y) 1 0) x xs in
    omega (arith, each xs h.1, each_one x h.0)

shows : (xs : List ℕ) → AllByRecursion Lawful xs → kind 4 (tally xs) ≤ (tally xs).shown
shows [] h = omega arith
shows (x ∷ xs) h =
    let d = sum_by-cons (λ y. cond (is_kind 4 y) 1 0) x xs in
    let f = sum_by-cons unit x xs in
    omega (arith, shows xs h.1, shows_one x h.0)

pub tally_stands : (xs : List ℕ) → TallyStands xs
tally_stands xs = record { frames = frames xs; each = each xs; shows = shows xs }
