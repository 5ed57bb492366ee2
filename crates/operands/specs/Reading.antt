-- What the lines of a text add to, where `adds` says what is held after the words of a line, if they add to it.
use Rattle.std.specs.Prelude.{◌≡◌, ℕ, suc, ◌<◌, Bool, false, List, [], ◌∷◌, length, take, Some, None, Option, slice_index_or}
use Rattle.words.specs.Words.{then}
use Rattle.words.specs.Lines.{words_in, lines_in, TextOf}
use Rattle.operands.specs.declared.fault.Fault as fault
use Rattle.operands.specs.declared.fault.Fault.TheVariants.{Malformed, NotText, NoMemory}

module _ {H : Type 0} (adds : List (List ℕ) → H → Option H) where
  -- what is held after the words of a line: a line without words adds nothing
  abbrev pub words_add : List (List ℕ) → H → Option H
  words_add [] h = Some h
  words_add (w ∷ ws) h = adds (w ∷ ws) h

  -- what is held after a line; nothing where it is malformed
  unfoldable pub line_adds : List ℕ → H → Option H
  line_adds line h = words_add (words_in line) h

  -- what is held after some lines in order; nothing where one of them is malformed
  unfoldable pub all_add : List (List ℕ) → H → Option H
  all_add [] h = Some h
  all_add (l ∷ ls) h = then (line_adds l h) (λ k. all_add ls k)

  -- the line with the number n, counted from 1, is malformed and none before it is
  abbrev pub FirstWrong : H → List (List ℕ) → ℕ → Type 0
  FirstWrong first ls n =
      (i : ℕ) × (h : H) × (n ≡ suc i) × (i < length ls) × (all_add (take i ls) first ≡ Some h) × (line_adds (slice_index_or ls i []) h ≡ None)

  -- why line n of the lines is told as wrong, where `whole` says whether they are all text: it is malformed; or none of
  -- them is and the line after them, which the last and empty one stands for, is not UTF-8; want of memory says nothing
  abbrev pub ToldWrong : H → List (List ℕ) → Bool → ℕ → fault.Fault → Type 0
  ToldWrong first ls whole n (Malformed m) = FirstWrong first ls n
  ToldWrong first ls whole n NotText = (h : H) × (whole ≡ false) × (n ≡ length ls) × (all_add ls first ≡ Some h)
  ToldWrong first ls whole n NoMemory = Unit {0}

  -- why line n of some bytes is told as wrong, by the lines that are text
  abbrev pub WrongIn : H → List ℕ → ℕ → fault.Fault → Type 0
  WrongIn first bs n e = (text : List ℕ) × (whole : Bool) × TextOf bs text whole × ToldWrong first (lines_in text) whole n e
