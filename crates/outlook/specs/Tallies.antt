-- What lists one after another come to, and that no figure is above a list's length.
use Rattle.std.specs.Prelude.{◌≡◌, ℕ, zero, suc, ◌+◌, ◌*◌, ◌<◌, ◌≤◌, Bool, cond, List, [], ◌∷◌, ◌++◌, length, take, count_by, slice_index}
use Rattle.std.proofs.Common.{sym, ap, ◌∙◌, zero-mul, suc-mul, arith}
use Rattle.std.proofs.lemmas.List.{take_more}
use Rattle.std.proofs.lemmas.List.Sums.{sum_by-append, count_by-le-length}
use Rattle.outlook.specs.declared.counts.Counts.{Counts}
use Rattle.outlook.specs.Bytes.{is_kind, is_frame, is_shown, copies}
use Rattle.outlook.specs.Counting.{figures, tally, both, times, Within}

-- equal figures make equal counts
same_figures : (f g : (ℕ → Bool) → ℕ) → ((p : ℕ → Bool) → f p ≡ g p) → figures f ≡ figures g
same_figures f g e =
    let a = e (is_kind 0) in
    let b = e (is_kind 1) in
    let c = e (is_kind 2) in
    let d = e (is_kind 3) in
    let h = e (is_kind 4) in
    let i = e is_frame in
    let j = e is_shown in
    cc

pub tally_append : (xs ys : List ℕ) → tally (xs ++ ys) ≡ both (tally xs) (tally ys)
tally_append xs ys =
    same_figures (λ p. count_by p (xs ++ ys)) (λ p. count_by p xs + count_by p ys) (λ p. sum_by-append (λ x. cond (p x) 1 0) xs ys)

-- one entry more
pub tally_more : (xs : List ℕ) (i : ℕ) → i < length xs → tally (take (i + 1) xs) ≡ both (tally (take i xs)) (tally (slice_index xs i ∷ []))
tally_more xs i h = ap tally (take_more xs i 0 h) ∙ tally_append (take i xs) (slice_index xs i ∷ [])

pub tally_within : (n : ℕ) (xs : List ℕ) → length xs ≤ n → Within n (tally xs)
tally_within n xs h =
    let le : (p : ℕ → Bool) → count_by p xs ≤ n = λ p. omega (arith, count_by-le-length p xs) in
    (le (is_kind 0), le (is_kind 1), le (is_kind 2), le (is_kind 3), le (is_kind 4), le is_frame, le is_shown)

-- how many entries of copies pass a test
pub count_by_copies : (p : ℕ → Bool) (n : ℕ) (xs : List ℕ) → count_by p (copies n xs) ≡ n * count_by p xs
unfolding copies
count_by_copies p zero xs = sym (zero-mul (count_by p xs))
count_by_copies p (suc n) xs =
    sum_by-append (λ x. cond (p x) 1 0) xs (copies n xs) ∙ omega (arith, count_by_copies p n xs, suc-mul n (count_by p xs))

-- the counts of copies
pub tally_copies : (n : ℕ) (xs : List ℕ) → tally (copies n xs) ≡ times n (tally xs)
tally_copies n xs = same_figures (λ p. count_by p (copies n xs)) (λ p. n * count_by p xs) (λ p. count_by_copies p n xs)

-- each of two counts is within what they are together
pub parts_within : (n : ℕ) (a b : Counts) → Within n (both a b) → Within n a × Within n b
parts_within n a b w =
    ((omega arith, omega arith, omega arith, omega arith, omega arith, omega arith, omega arith), (omega arith, omega arith, omega arith, omega arith, omega arith, omega arith, omega arith))
