-- A repeated list is whole copies and a part of one more, and so is its front part.
use Rattle.std.specs.Prelude.{◌≡◌, ℕ, zero, suc, ◌+◌, ◌-◌, ◌*◌, ◌/◌, ◌%◌, ◌<◌, ◌≤◌, cond, List, [], ◌++◌, length, take, count_by, ◌==◌, slice_index, refl}
use Rattle.std.proofs.Common.{sym, ap, ◌∙◌, ⊎_elim, zero-mul, suc-mul, div-add-mod', div-le_self, mod-lt, mod-eq_of_lt, mul-le-mul_right, arith}
use Rattle.std.proofs.Math.Nat.{mod-eq-sub-mod}
use Rattle.std.proofs.Math.Seq.{take-append-add}
use Rattle.std.specs.List.{AllByRecursion}
use Rattle.std.proofs.ByRecursion.{All-append, All-take}
use Rattle.std.proofs.lemmas.List.{append_assoc, get_or_append_left, get_or-append_right, get_or-take, length-append, length-take, take_all, take-append-le}
use Rattle.std.proofs.lemmas.Bool.{eq-eqb, ne_eqb, cases_eq, cases_lt}
use Rattle.outlook.specs.Bytes.{is_shown, front, copies, repeated, Lawful}
use Rattle.outlook.specs.Counting.{tally, both, times}
use Rattle.outlook.specs.Laws.{RepeatedStands}
use Rattle.outlook.specs.Tallies.{tally_append, tally_copies, count_by_copies}
use Rattle.outlook.specs.Fronts.{front_over, front_within}

-- whole copies, and a part of the copies that are left
take_copies : (q k m n r : ℕ) (xs : List ℕ) → k ≡ q + m → n ≡ q * length xs + r → take n (copies k xs) ≡ copies q xs ++ take r (copies m xs)
unfolding copies
take_copies zero k m n r xs e f =
    let a : k ≡ m = omega arith in
    let b : n ≡ r = omega (arith, zero-mul (length xs)) in
    ap (λ i. take i (copies k xs)) b ∙ ap (λ i. take r (copies i xs)) a
take_copies (suc q) zero m n r xs e f = absurd (omega arith)
take_copies (suc q) (suc k) m n r xs e f =
    let b : n ≡ length xs + (q * length xs + r) = omega (arith, suc-mul q (length xs)) in
    ap (λ i. take i (xs ++ copies k xs)) b
    ∙ take-append-add xs (copies k xs) (q * length xs + r)
    ∙ ap (λ ys. xs ++ ys) (take_copies q k m (q * length xs + r) r xs (omega arith) refl)
    ∙ sym (append_assoc xs (copies q xs) (take r (copies m xs)))

-- a part of the first copy
part_copies : (m r : ℕ) (xs : List ℕ) → r ≤ length xs → (m ≡ 0 → r ≡ 0) → take r (copies m xs) ≡ take r xs
unfolding copies
part_copies zero r xs h z = ap (λ i. take i []) (z refl) ∙ ap (λ i. take i xs) (sym (z refl))
part_copies (suc m) r xs h z = take-append-le r xs (copies m xs) h

pub repeated_is : (xs : List ℕ) → 0 < length xs → repeated xs ≡ copies (4096 / length xs) xs ++ take (4096 % length xs) xs
unfolding repeated
repeated_is xs h =
    let q : ℕ = 4096 / length xs in
    let r : ℕ = 4096 % length xs in
    let le : q ≤ 4096 = div-le_self 4096 (length xs) in
    let e : q * length xs + r ≡ 4096 = div-add-mod' 4096 (length xs) in
    let lt : r < length xs = mod-lt 4096 h in
    let z : 4096 - q ≡ 0 → r ≡ 0 = λ no'.
    let full : 4096 * length xs ≤ q * length xs = mul-le-mul_right (length xs) (omega arith) in omega arith in
    take_copies q 4096 (4096 - q) 4096 r xs (omega arith) (sym e)
    ∙ ap (λ ys. copies q xs ++ ys) (part_copies (4096 - q) r xs (omega arith) z)

-- copies are some copies, one more, and the others
split_copies : (w n d : ℕ) (xs : List ℕ) → n ≡ w + suc d → copies n xs ≡ copies w xs ++ (xs ++ copies d xs)
unfolding copies
split_copies zero n d xs e = let a : n ≡ suc d = omega arith in ap (λ i. copies i xs) a
split_copies (suc w) zero d xs e = absurd (omega arith)
split_copies (suc w) (suc n) d xs e =
    ap (λ ys. xs ++ ys) (split_copies w n d xs (omega arith)) ∙ sym (append_assoc xs (copies w xs) (xs ++ copies d xs))

-- whole copies with fewer shown entries than the units are counted at once
tally_over : (w u : ℕ) (xs zs : List ℕ) → w * count_by is_shown xs < u
    → tally (front u (copies w xs ++ zs)) ≡ both (times w (tally xs)) (tally (front (u - w * count_by is_shown xs) zs))
tally_over w u xs zs h =
    let c : count_by is_shown (copies w xs) ≡ w * count_by is_shown xs = count_by_copies is_shown w xs in
    let lt : count_by is_shown (copies w xs) < u = omega arith in
    ap tally (front_over (copies w xs) zs u lt)
    ∙ tally_append (copies w xs) (front (u - count_by is_shown (copies w xs)) zs)
    ∙ ap (λ n. both (tally (copies w xs)) (tally (front (u - n) zs))) c
    ∙ ap (λ a. both a (tally (front (u - w * count_by is_shown xs) zs))) (tally_copies w xs)

-- how much of the next copy there is after w whole ones
abbrev pub left_of : ℕ → List ℕ → ℕ
left_of w xs = cond (w == 4096 / length xs) (4096 % length xs) (length xs)

pub tally_repeated : (xs : List ℕ) (u w : ℕ) → 0 < length xs → w ≤ 4096 / length xs → w * count_by is_shown xs < u
    → (w < 4096 / length xs → u ≤ w * count_by is_shown xs + count_by is_shown xs)
    → both (times w (tally xs)) (tally (front (u - w * count_by is_shown xs) (take (left_of w xs) xs))) ≡ tally (front u (repeated xs))
tally_repeated xs u w h le under last =
    let q : ℕ = 4096 / length xs in
    let s : ℕ = count_by is_shown xs in
    let rest : List ℕ = take (4096 % length xs) xs in
    let whole : front u (repeated xs) ≡ front u (copies q xs ++ rest) = ap (front u) (repeated_is xs h) in
    ⊎_elim
    (λ (e : w ≡ q).
    ap (λ b. both (times w (tally xs)) (tally (front (u - w * s) (take (cond b (4096 % length xs) (length xs)) xs)))) (eq-eqb w q e)
    ∙ sym (tally_over w u xs rest under)
    ∙ ap (λ n. tally (front u (copies n xs ++ rest))) e
    ∙ ap tally (sym whole))
    (λ (ne : w ≡ q → ⊥).
    let d : ℕ = q - w - 1 in
    let one_more : u - w * s ≤ s = omega (arith, last (omega arith)) in
    let split : copies q xs ++ rest ≡ copies w xs ++ (xs ++ (copies d xs ++ rest))
    = ap (λ ys. ys ++ rest) (split_copies w q d xs (omega arith))
    ∙ append_assoc (copies w xs) (xs ++ copies d xs) rest
    ∙ ap (λ ys. copies w xs ++ ys) (append_assoc xs (copies d xs) rest) in
    ap (λ b. both (times w (tally xs)) (tally (front (u - w * s) (take (cond b (4096 % length xs) (length xs)) xs)))) (ne_eqb w q ne)
    ∙ ap (λ ys. both (times w (tally xs)) (tally (front (u - w * s) ys))) (take_all (length xs) xs (omega arith))
    ∙ ap (λ ys. both (times w (tally xs)) (tally ys)) (sym (front_within xs (copies d xs ++ rest) (u - w * s) one_more))
    ∙ sym (tally_over w u xs (xs ++ (copies d xs ++ rest)) under)
    ∙ ap (λ ys. tally (front u ys)) (sym split)
    ∙ ap tally (sym whole))
    (cases_eq w q)

copies_lawful : (n : ℕ) (xs : List ℕ) → AllByRecursion Lawful xs → AllByRecursion Lawful (copies n xs)
unfolding copies
copies_lawful zero xs h = tt
copies_lawful (suc n) xs h = All-append Lawful xs (copies n xs) h (copies_lawful n xs h)

-- the two laws of an outlook
pub repeated_lawful : (xs : List ℕ) → AllByRecursion Lawful xs → AllByRecursion Lawful (repeated xs)
unfolding repeated
repeated_lawful xs h = All-take Lawful 4096 (copies 4096 xs) (copies_lawful 4096 xs h)

pub repeated_few : (xs : List ℕ) → length (repeated xs) ≤ 4096
unfolding repeated
repeated_few xs = omega (arith, length-take 4096 (copies 4096 xs))

length_copies : (n : ℕ) (xs : List ℕ) → length (copies n xs) ≡ n * length xs
unfolding copies
length_copies zero xs = sym (zero-mul (length xs))
length_copies (suc n) xs = length-append xs (copies n xs) ∙ omega (arith, length_copies n xs, suc-mul n (length xs))

place_in : (n i : ℕ) (xs : List ℕ) → i < n * length xs → slice_index (copies n xs) i ≡ slice_index xs (i % length xs)
unfolding copies
place_in zero i xs h = absurd (omega (arith, zero-mul (length xs)))
place_in (suc n) i xs h =
    ⊎_elim
    (λ (l : i < length xs). get_or_append_left xs (copies n xs) 0 i l ∙ ap (λ k. slice_index xs k) (sym (mod-eq_of_lt l)))
    (λ (l : length xs ≤ i).
    get_or-append_right xs (copies n xs) (length xs) i 0 refl l
    ∙ place_in n (i - length xs) xs (omega (arith, suc-mul n (length xs)))
    ∙ ap (λ k. slice_index xs k) (sym (mod-eq-sub-mod l)))
    (cases_lt i (length xs))

pub repeated_stands : (xs : List ℕ) → 0 < length xs → RepeatedStands xs
unfolding repeated
repeated_stands xs h =
    record {
      size = length-take 4096 (copies 4096 xs) ∙ omega (arith, length_copies 4096 xs);
      places = λ i l. get_or-take 4096 (copies 4096 xs) i 0 l ∙ place_in 4096 i xs (omega arith);
    }
