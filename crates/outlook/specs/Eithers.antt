-- The laws of an outlook of either kind.
use Rattle.std.specs.Prelude.{◌≤◌, length, vec_items, vec_len}
use Rattle.std.specs.List.{AllByRecursion}
use Rattle.outlook.specs.Bytes.{Lawful}
use Rattle.outlook.specs.Either.{entries_known}
use Rattle.outlook.specs.declared.known.Known.{Known}
use Rattle.outlook.specs.declared.known.Known.TheVariants.{Listed, Repeated}
use Rattle.outlook.specs.Cycles.{repeated_few, repeated_lawful}
use Rattle.outlook.specs.Packing.{packed_bytes, packed_few, packed_lawful}

pub known_few : (o : Known) → length (entries_known o) ≤ 4096
known_few (Listed l) = packed_few (vec_items l.items) (vec_len l.items) l.items.ok.0 l.few
known_few (Repeated p) = repeated_few (packed_bytes (vec_items p.items))

pub known_lawful : (o : Known) → AllByRecursion Lawful (entries_known o)
known_lawful (Listed l) = packed_lawful (vec_items l.items)
known_lawful (Repeated p) = repeated_lawful (packed_bytes (vec_items p.items)) (packed_lawful (vec_items p.items))
