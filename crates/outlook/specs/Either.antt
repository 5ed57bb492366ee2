-- The entries of an outlook of either kind.
use Rattle.std.specs.Prelude.{ℕ, List, vec_items}
use Rattle.outlook.specs.Bytes.{repeated}
use Rattle.outlook.specs.Packing.{packed_bytes}
use Rattle.outlook.specs.declared.known.Known.{Known}
use Rattle.outlook.specs.declared.known.Known.TheVariants.{Listed, Repeated}

-- a list has its own entries, and a pattern has them repeated
abbrev pub entries_known : Known → List ℕ
entries_known (Listed l) = packed_bytes (vec_items l.items)
entries_known (Repeated p) = repeated (packed_bytes (vec_items p.items))
