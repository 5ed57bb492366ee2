use Rattle.std.proofs.Common.{◌≡◌, ◌++◌, length, vec_items}
use denote.Text.{Utf8}
use denote.Shadow.{shadow}
use Rattle.numerals.specs.Words.{texts}
use Rattle.words.specs.Lines.{lines_in}
use Rattle.words.proofs.lines.lines_of.Given as goal

-- the lines so far, then those of what is left, are the text's
abbrev pub invariant-loop-at : goal.invariant-loop-at
invariant-loop-at l = shadow (Utf8 l.rest) × (texts (vec_items l.lines) ++ lines_in l.rest ≡ lines_in l.text)

abbrev pub decreases-loop-at : goal.decreases-loop-at
decreases-loop-at l = length l.rest
