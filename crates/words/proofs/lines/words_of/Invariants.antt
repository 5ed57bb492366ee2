use Rattle.std.proofs.Common.{◌≡◌, [], ◌++◌, length, vec_items}
use denote.Text.{Utf8}
use denote.Shadow.{shadow}
use Rattle.std.specs.Char.{is_ascii_whitespace}
use Rattle.numerals.specs.Words.{texts}
use Rattle.words.specs.Lines.{parted, ended, words_in}
use Rattle.words.proofs.Parting.{Begun}
use Rattle.words.proofs.lines.words_of.Given as goal

-- the words so far, then those of what is left, are the line's
abbrev pub invariant-loop-at : goal.invariant-loop-at
invariant-loop-at l =
    shadow (Utf8 l.rest) × Begun l.rest × (texts (vec_items l.words) ++ parted ended is_ascii_whitespace [] l.rest ≡ words_in l.line)

abbrev pub decreases-loop-at : goal.decreases-loop-at
decreases-loop-at l = length l.rest
