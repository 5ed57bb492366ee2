-- The bytes of lists of entries: their number, each, and that all are lawful.
use Rattle.std.specs.Prelude.{◌≡◌, ℕ, ◌+◌, ◌<◌, ◌≤◌, true, List, [], ◌∷◌, ◌++◌, length, take, slice_index, slice_index_or, false, refl}
use Rattle.std.proofs.Common.{sym, ap, subst, ◌∙◌}
use Rattle.std.specs.List.{AllByRecursion}
use Rattle.std.proofs.lemmas.List.{length-map, get_or-map, map_push, take_more}
use Rattle.std.proofs.lemmas.Bool.{and_parts}
use Rattle.outlook.specs.declared.entry.Entry.{Entry}
use Rattle.outlook.specs.Bytes.{Lawful, is_lawful, all_lawful}
use Rattle.outlook.specs.declared.entry.Entry.TheVariants.{Frame, ShowExisting}
use Rattle.flat.specs.declared.subtype.Subtype.TheVariants.{I, P, B0, B1}
use Rattle.outlook.specs.Entries.{byte_of, bytes_of}

pub length_bytes : (es : List Entry) → length (bytes_of es) ≡ length es
length_bytes es = length-map es byte_of

-- so few entries have so few bytes
pub bytes_few : (es : List Entry) (n : ℕ) → n ≡ length es → n ≤ 4096 → length (bytes_of es) ≤ 4096
bytes_few es n is few = subst (λ (k : ℕ). k ≤ 4096) (is ∙ sym (length_bytes es)) few

-- the byte of an entry that was read
pub byte_at : (es : List Entry) (i : ℕ) (d : Entry) → i < length es → byte_of (slice_index_or es i d) ≡ slice_index (bytes_of es) i
byte_at es i d h = sym (get_or-map byte_of es i d 0 h)

-- an entry more, made from the next byte
pub bytes_push : (es ds : List Entry) (e : Entry) (xs : List ℕ) (i : ℕ) → i < length xs → bytes_of es ≡ take i xs
    → ds ≡ es ++ e ∷ [] → byte_of e ≡ slice_index xs i → bytes_of ds ≡ take (i + 1) xs
bytes_push es ds e xs i h so more k =
    ap bytes_of more ∙ map_push byte_of es e ∙ ap (λ ys. ys ++ byte_of e ∷ []) so ∙ ap (λ y. take i xs ++ y ∷ []) k ∙ sym (take_more xs i 0 h)

-- the byte of an entry is lawful
byte_lawful : (e : Entry) → Lawful (byte_of e)
byte_lawful (Frame I true) = refl
byte_lawful (Frame I false) = refl
byte_lawful (Frame P true) = refl
byte_lawful (Frame P false) = refl
byte_lawful (Frame B0 true) = refl
byte_lawful (Frame B0 false) = refl
byte_lawful (Frame B1 true) = refl
byte_lawful (Frame B1 false) = refl
byte_lawful ShowExisting = refl

pub bytes_lawful : (es : List Entry) → AllByRecursion Lawful (bytes_of es)
bytes_lawful [] = tt
bytes_lawful (e ∷ es) = (byte_lawful e, bytes_lawful es)

pub lawful_all : (xs : List ℕ) → all_lawful xs ≡ true → AllByRecursion Lawful xs
lawful_all [] e = tt
lawful_all (x ∷ xs) e = let p = and_parts (is_lawful x) (all_lawful xs) e in (p.0, lawful_all xs p.1)
