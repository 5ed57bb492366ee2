-- What the lines of a text leave of a script, and which line is told as wrong.
use Rattle.std.specs.Prelude.{ℕ, List, Option}
use Rattle.operands.specs.declared.fault.Fault as fault
use Rattle.operands.specs.Reading as reading
use Rattle.scripts.specs.Read.{Read, empty, words_read}

-- what is held after some lines in order; nothing where one of them is malformed
abbrev pub all_add : List (List ℕ) → Read → Option Read
all_add ls s = reading.all_add words_read ls s

-- why line n of some bytes is told as wrong, by the lines that are text
abbrev pub WrongIn : List ℕ → ℕ → fault.Fault → Type 0
WrongIn bs n e = reading.WrongIn words_read empty bs n e
