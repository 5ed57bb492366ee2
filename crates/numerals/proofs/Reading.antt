-- A reading of digits, as a test.
use Rattle.std.proofs.Common.{◌≡◌, ℕ, zero, suc, ◌^◌, ◌<◌, Bool, true, false, ◌&&◌, ltb, List, [], ◌∷◌, length, get_or, ℤ, pos, negsuc, Some, Ok, Err, Decides, Option, codes, Result, refl, ap, arith, w64, SFits, Bor, rules}
use Rattle.std.specs.Result.{OkIff, result_ok}
use Rattle.std.specs.Str.Parse.{IsNumeral, digits_value, without_leading_plus, without_leading_sign, signed_digits_value, ParsesUnsigned, ParsesSigned}
use Rattle.std.specs.Str.{all_ascii_digits, bytes_eq}
use Rattle.std.proofs.lemmas.Str.Parse.{IsNumeralModel, numerals_by_value, tells_all_ascii_digits}
use Rattle.std.proofs.lemmas.Bool.{both_ways, and_parts, and_from, lt-ltb, ltb-true}
use Rattle.std.proofs.lemmas.Slice.Eq.{bytes_eq-Decides}
use Rattle.numerals.specs.Words.{texts, when, then, numeral, in_64, unsigned, signed, maybe}

own : IsNumeralModel (λ ds. all_ascii_digits ds ≡ true) (digits_value 10)
own = numerals_by_value _ tells_all_ascii_digits

-- a reading that is right just where a test holds
pub reading : {T E : Type 0} (r : Result T E) (P : Type 0) (v : T) (b : Bool) → OkIff r P v → Decides b P → result_ok r ≡ when b v
reading (Ok x) P v true h d = ap Some h.1
reading (Ok x) P v false h d = absurd (both_ways false refl (d.1 h.0))
reading (Err e) P v true h d = absurd (h (d.0 refl))
reading (Err e) P v false h d = refl

numeral_decides : (ds : List ℕ) → Decides (numeral ds) (IsNumeral 10 ds)
numeral_decides [] = (λ e. absurd (both_ways false refl e), λ n. absurd (omega (arith, n.0)))
numeral_decides (c ∷ cs) = (λ e. (search rules, own.to (c ∷ cs) e), λ n. own.from (c ∷ cs) n.1)

both : (a b : Bool) (P Q : Type 0) → Decides a P → Decides b Q → Decides (a && b) (P × Q)
both a b P Q p q = (λ e. (p.0 (and_parts a b e).0, q.0 (and_parts a b e).1), λ h. and_from a b (p.1 h.0) (q.1 h.1))

below_decides : (m n : ℕ) → Decides (ltb m n) (m < n)
below_decides m n = (ltb-true m n, lt-ltb m n)

in_64_decides : (z : ℤ) → Decides (in_64 z) (SFits w64 z)
in_64_decides (pos n) = (λ e. record { sfits = ltb-true n (2 ^ 63) e }, λ f. lt-ltb n (2 ^ 63) f.sfits)
in_64_decides (negsuc n) = (λ e. record { sfits = ltb-true n (2 ^ 63) e }, λ f. lt-ltb n (2 ^ 63) f.sfits)

pub unsigned_read : {E : Type 0} (k : ℕ) (bs : List ℕ) (r : Result ℕ E) → ParsesUnsigned k 10 bs r → result_ok r ≡ unsigned k bs
unfolding unsigned
unsigned_read k bs r h = reading r _ _ _ h (both _ _ _ _ (numeral_decides (without_leading_plus bs)) (below_decides (digits_value 10 (without_leading_plus bs)) (2 ^ k)))

pub signed_read : {E : Type 0} (bs : List ℕ) (r : Result ℤ E) → ParsesSigned w64 10 bs r → result_ok r ≡ signed bs
unfolding signed
signed_read bs r h = reading r _ _ _ h (both _ _ _ _ (numeral_decides (without_leading_sign bs)) (in_64_decides (signed_digits_value 10 bs)))

pub length_texts : (ws : List (Bor (List ℕ))) → length (texts ws) ≡ length ws
length_texts [] = refl
length_texts (w ∷ ws) = search (rules, length_texts ws)

pub texts_at : (ws : List (Bor (List ℕ))) (i : ℕ) (d : Bor (List ℕ)) → i < length ws → get_or (texts ws) i [] ≡ (get_or ws i d).now
texts_at [] i d l = absurd (omega (arith, l))
texts_at (w ∷ ws) zero d l = refl
texts_at (w ∷ ws) (suc i) d l = texts_at ws i d (omega (arith, l))

pub texts_or : (ws : List (Bor (List ℕ))) (i : ℕ) (d : Bor (List ℕ)) → (get_or ws i d).now ≡ get_or (texts ws) i d.now
texts_or [] i d = refl
texts_or (w ∷ ws) zero d = refl
texts_or (w ∷ ws) (suc i) d = texts_or ws i d

pub unlike : (w v : List ℕ) → (w ≡ v → ⊥) → bytes_eq w v ≡ false
unlike w v h = search (rules, bytes_eq-Decides w v)

-- a word that is no dash is read
pub read_word : {X : Type 0} (read : List ℕ → Option X) (w : List ℕ) (o : Option X) → (w ≡ codes "-" → ⊥) → o ≡ read w → then o (λ x. Some (Some x)) ≡ maybe read w
unfolding maybe
read_word read w o h e = rw (unlike w (codes "-") h, e) refl
