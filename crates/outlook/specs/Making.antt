-- Which bytes make a list or a pattern, and what making answers.
use Rattle.std.specs.Prelude.{◌≡◌, ℕ, cond, ◌&&◌, List, length, Some, None, Ok, Err, vec_items, Option, Result, nat_le}
use Rattle.std.specs.Global.{Vec}
use Rattle.outlook.specs.Bytes.{all_lawful}
use Rattle.outlook.specs.Packing.{packed_bytes}
use Rattle.outlook.specs.declared.packed.Packed.{Packed}
use Rattle.outlook.specs.declared.list.List.{List as Listed}
use Rattle.outlook.specs.declared.pattern.Pattern.{Pattern}
use Rattle.outlook.specs.declared.refusal.NotMade.{NotMade}
use Rattle.outlook.specs.declared.refusal.NotMade.TheVariants.{Refused, NoMemory}
use Rattle.outlook.specs.declared.refusal.Refusal.{Refusal}
use Rattle.outlook.specs.declared.refusal.Refusal.TheVariants.{WrongLength, Unlawful}

-- are there so many entries, at least and at most, and is every entry lawful? The first question that is answered no
abbrev pub entries_question : ℕ → ℕ → List ℕ → Option Refusal
entries_question least most xs = cond (nat_le least (length xs) && nat_le (length xs) most) (cond (all_lawful xs) None (Some Unlawful)) (Some WrongLength)

-- has a list at most 4,096 entries, and is every entry lawful? The first question that is answered no refuses it
abbrev pub list_question : List ℕ → Option Refusal
list_question xs = cond (nat_le (length xs) 4096) (cond (all_lawful xs) None (Some Unlawful)) (Some WrongLength)

-- has a pattern 1 to 64 entries, and is every entry lawful?
abbrev pub pattern_question : List ℕ → Option Refusal
pattern_question xs = cond (nat_le 1 (length xs) && nat_le (length xs) 64) (cond (all_lawful xs) None (Some Unlawful)) (Some WrongLength)

-- what making answers: the refusal of the question; else exactly the entries given, or want of memory
abbrev pub Answered : Option Refusal → List ℕ → Result (List ℕ) NotMade → Type 0
Answered (Some q) xs r = r ≡ Err (Refused q)
Answered None xs (Ok ys) = ys ≡ xs
Answered None xs (Err e) = e ≡ NoMemory

-- the bytes of what was made of entries
abbrev pub bytes_in : {T : Type 0} → (T → List Packed) → Result T NotMade → Result (List ℕ) NotMade
bytes_in entries (Ok o) = Ok (packed_bytes (entries o))
bytes_in entries (Err e) = Err e

-- the bytes of entries that were read
abbrev pub read : Result (Vec Packed) NotMade → Result (List ℕ) NotMade
read r = bytes_in (λ v. vec_items v) r

-- the entries of a list that was made
abbrev pub listed : Result Listed NotMade → Result (List ℕ) NotMade
listed r = bytes_in (λ o. vec_items o.items) r

-- the entries of a pattern that was made, which are repeated
abbrev pub patterned : Result Pattern NotMade → Result (List ℕ) NotMade
patterned r = bytes_in (λ o. vec_items o.items) r
