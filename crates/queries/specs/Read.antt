-- What the lines of a text ask, and which line is told as wrong. They say in terms of questions what `operands` says of
-- any reading: contracts were first stated so, and their meaning was to stay.
use Rattle.std.specs.Prelude.{◌≡◌, ℕ, suc, ◌<◌, Bool, false, List, [], ◌∷◌, ◌++◌, length, take, Some, None, Option, slice_index_or}
use Rattle.words.specs.Words.{then}
use Rattle.words.specs.Lines.{words_in, lines_in, TextOf}
use Rattle.operands.specs.declared.fault.Fault as fault
use Rattle.operands.specs.declared.fault.Fault.TheVariants.{Malformed, NotText, NoMemory}
use Rattle.queries.specs.declared.query.Query.{Query}
use Rattle.queries.specs.Asked.{asked}

-- the questions of the words of one line: none of no words, else the one that they ask
abbrev pub asked_by : List (List ℕ) → Option (List Query)
asked_by [] = Some []
asked_by (w ∷ ws) = then (asked (w ∷ ws)) (λ q. Some (q ∷ []))

-- the questions of a line, none or one; nothing where it is malformed
unfoldable pub line_asks : List ℕ → Option (List Query)
line_asks line = asked_by (words_in line)

-- the first questions and then the others, where there are both
abbrev pub joined : Option (List Query) → Option (List Query) → Option (List Query)
joined x y = then x (λ a. then y (λ b. Some (a ++ b)))

-- the questions of some lines in order; nothing where one of them is malformed
unfoldable pub all_asked : List (List ℕ) → Option (List Query)
all_asked [] = Some []
all_asked (l ∷ ls) = joined (line_asks l) (all_asked ls)

-- the line with the number n, counted from 1, is malformed and none before it is
abbrev pub FirstWrong : List (List ℕ) → ℕ → Type 0
FirstWrong ls n =
    (i : ℕ) × (qs : List Query) × (n ≡ suc i) × (i < length ls) × (line_asks (slice_index_or ls i []) ≡ None) × (all_asked (take i ls) ≡ Some qs)

-- why line n of the lines is told as wrong, where `whole` says whether they are all text: it is
-- malformed; or none of them is and the line after them, which the last and empty one stands for,
-- is not UTF-8; want of memory says nothing
abbrev pub ToldWrong : List (List ℕ) → Bool → ℕ → fault.Fault → Type 0
ToldWrong ls whole n (Malformed m) = FirstWrong ls n
ToldWrong ls whole n NotText = (qs : List Query) × (whole ≡ false) × (n ≡ length ls) × (all_asked ls ≡ Some qs)
ToldWrong ls whole n NoMemory = Unit {0}

-- why line n of some bytes is told as wrong, by the lines that are text
abbrev pub WrongIn : List ℕ → ℕ → fault.Fault → Type 0
WrongIn bs n e = (text : List ℕ) × (whole : Bool) × TextOf bs text whole × ToldWrong (lines_in text) whole n e

-- the questions so far and the one that the words of a line ask, if they ask one
abbrev pub asks_more : List (List ℕ) → List Query → Option (List Query)
asks_more ws qs = then (asked ws) (λ q. Some (qs ++ (q ∷ [])))
