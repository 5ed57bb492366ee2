-- Entries and their bytes.
use Rattle.std.specs.Prelude.{ℕ, ◌+◌, cond, List, map, Some, None, Ok, Err, Option, Result}
use Rattle.flat.specs.Flat.{code_of}
use Rattle.outlook.specs.Bytes.{is_lawful}
use Rattle.outlook.specs.declared.entry.Entry.{Entry}
use Rattle.outlook.specs.declared.entry.Entry.TheVariants.{Frame, ShowExisting}
use Rattle.outlook.specs.declared.entry.NoSuchEntry.{NoSuchEntry}

-- the byte of an entry: the subtype, and 8 more where it is shown
abbrev pub byte_of : Entry → ℕ
byte_of (Frame subtype shown) = code_of subtype + cond shown 8 0
byte_of ShowExisting = 12

-- a lawful byte is that of an entry, any other is refused
abbrev pub read_byte : ℕ → Option ℕ
read_byte x = cond (is_lawful x) (Some x) None

-- the byte of an entry that was made
abbrev pub byte_in : Result Entry NoSuchEntry → Option ℕ
byte_in (Ok e) = Some (byte_of e)
byte_in (Err none) = None

-- the bytes of a list of entries
abbrev pub bytes_of : List Entry → List ℕ
bytes_of es = map byte_of es
