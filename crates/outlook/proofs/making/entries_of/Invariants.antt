use Rattle.std.proofs.Common.{◌≡◌, ◌≤◌, length, take, vec_items, vec_len, vec_capacity}
use Rattle.outlook.specs.Packing.{packed_bytes}
use Rattle.outlook.proofs.making.entries_of.Given as goal

abbrev pub invariant-loop-byte : goal.invariant-loop-byte
invariant-loop-byte l =
    (packed_bytes (vec_items l.items) ≡ take l.byte-index l.bytes)
    × (vec_len l.items ≡ l.byte-index)
    × (length l.bytes ≤ vec_capacity l.items)
