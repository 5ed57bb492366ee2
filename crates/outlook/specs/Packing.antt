-- The bytes of entries as lists keep them: their number, each, and that all are lawful.
use Rattle.std.specs.Prelude.{◌≡◌, ℕ, ◌<◌, ◌≤◌, List, [], ◌∷◌, length, map, slice_index, slice_index_or}
use Rattle.std.proofs.Common.{sym, subst, ◌∙◌}
use Rattle.std.specs.List.{AllByRecursion}
use Rattle.std.proofs.lemmas.List.{length-map, get_or-map}
use Rattle.outlook.specs.declared.packed.Packed.{Packed}
use Rattle.outlook.specs.Bytes.{Lawful}

-- the bytes of a list of entries that are kept
abbrev pub packed_bytes : List Packed → List ℕ
packed_bytes ps = map (λ p. p.byte) ps

pub length_packed : (ps : List Packed) → length (packed_bytes ps) ≡ length ps
length_packed ps = length-map ps (λ p. p.byte)

-- so few entries have so few bytes
pub packed_few : (ps : List Packed) (n : ℕ) → n ≡ length ps → n ≤ 4096 → length (packed_bytes ps) ≤ 4096
packed_few ps n is few = subst (λ (k : ℕ). k ≤ 4096) (is ∙ sym (length_packed ps)) few

-- the byte of an entry that was read
pub packed_at : (ps : List Packed) (i : ℕ) (d : Packed) → i < length ps → (slice_index_or ps i d).byte ≡ slice_index (packed_bytes ps) i
packed_at ps i d h = sym (get_or-map (λ (p : Packed). p.byte) ps i d 0 h)

pub packed_lawful : (ps : List Packed) → AllByRecursion Lawful (packed_bytes ps)
packed_lawful [] = tt
packed_lawful (p ∷ ps) = (p.lawful, packed_lawful ps)
