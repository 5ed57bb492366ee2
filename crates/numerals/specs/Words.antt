-- The numbers that words write. A word is the list of its bytes.
use Rattle.std.specs.Prelude.{ℕ, ◌^◌, Bool, true, false, cond, ◌&&◌, List, [], ◌∷◌, ℤ, pos, negsuc, Some, None, codes, Option, nat_lt}
use Rattle.std.specs.Borrow.{Bor}
use Rattle.std.specs.Str.Parse.{digits_value, without_leading_plus, without_leading_sign, signed_digits_value}
use Rattle.std.specs.Str.{all_ascii_digits, bytes_eq}

-- x where the test holds, else nothing
abbrev pub when : {X : Type 0} → Bool → X → Option X
when b x = cond b (Some x) None

-- nothing where there is nothing, else what f makes of it
abbrev pub then : {X Y : Type 0} → Option X → (X → Option Y) → Option Y
then None f = None
then (Some x) f = f x

-- one digit or more, and nothing else
abbrev pub numeral : List ℕ → Bool
numeral [] = false
numeral (c ∷ cs) = all_ascii_digits (c ∷ cs)

-- from -2^63 to 2^63 - 1
abbrev pub in_64 : ℤ → Bool
in_64 (pos n) = nat_lt n (2 ^ 63)
in_64 (negsuc n) = nat_lt n (2 ^ 63)

-- the number below 2^k that a word writes; a plus may stand in front
unfoldable pub unsigned : ℕ → List ℕ → Option ℕ
unsigned k w = when (numeral (without_leading_plus w) && nat_lt (digits_value 10 (without_leading_plus w)) (2 ^ k)) (digits_value 10 (without_leading_plus w))

-- the signed number of 64 bits that a word writes; a plus or a minus may stand in front
unfoldable pub signed : List ℕ → Option ℤ
signed w = when (numeral (without_leading_sign w) && in_64 (signed_digits_value 10 w)) (signed_digits_value 10 w)

-- a mark is the word `0`, false, or the word `1`, true
unfoldable pub mark_of : List ℕ → Option Bool
mark_of w = cond (bytes_eq w (codes "0")) (Some false) (when (bytes_eq w (codes "1")) true)

-- a dash says that a value is absent; any other word is read
unfoldable pub maybe : {X : Type 0} → (List ℕ → Option X) → List ℕ → Option (Option X)
maybe read w = cond (bytes_eq w (codes "-")) (Some None) (then (read w) (λ x. Some (Some x)))

-- the bytes of each word of a list of references
abbrev pub texts : List (Bor (List ℕ)) → List (List ℕ)
texts [] = []
texts (w ∷ ws) = w.now ∷ texts ws
