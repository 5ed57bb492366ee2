-- What a script holds, and how each line adds to it.
use Rattle.std.specs.Prelude.{ℕ, cond, List, [], ◌∷◌, ◌++◌, map, length, take, drop, Some, None, Ok, Err, vec_items, codes, Option, Result, ◌==◌, slice_index_or}
use Rattle.std.specs.Str.{bytes_eq}
use Rattle.words.specs.Words.{then, unsigned}
use Rattle.operands.specs.Line.{values}
use Rattle.outlook.specs.Bytes.{repeated}
use Rattle.outlook.specs.Either.{entries_known}
use Rattle.outlook.specs.Making.{list_question, pattern_question}
use Rattle.outlook.specs.declared.known.Known.{Known}
use Rattle.outlook.specs.declared.refusal.NotMade.{NotMade}
use Rattle.outlook.specs.declared.refusal.NotMade.TheVariants as unmade
use Rattle.outlook.specs.declared.refusal.Refusal as outlook
use Rattle.stair.specs.Stairs.{stair_made}
use Rattle.stair.specs.declared.refusal.Refusal as stair
use Rattle.stair.specs.declared.stair.Stair.{Stair}
use Rattle.scripts.specs.declared.line.Line.{Line}
use Rattle.scripts.specs.declared.line.Line.TheVariants as line
use Rattle.scripts.specs.declared.script.Script.{Script}
use Rattle.scripts.specs.Said.{said}

-- the lines of a script, the entries of its outlooks and its stairs, each in their order
pub record Read : Type 0 where
  pub lines : List Line
  pub outlooks : List (List ℕ)
  pub stairs : List Stair

-- what a script holds
abbrev pub read_of : Script → Read
read_of s = record {
  lines = vec_items s.lines;
  outlooks = map entries_known (vec_items s.outlooks);
  stairs = vec_items s.stairs;
}

-- an empty script
abbrev pub empty : Read
empty = record { lines = []; outlooks = []; stairs = [] }

-- one line more
abbrev pub with_line : Line → Read → Read
with_line l s = record { lines = s.lines ++ (l ∷ []); outlooks = s.outlooks; stairs = s.stairs }

-- what was made is kept behind the others; a refusal changes nothing
abbrev pub kept : {X E : Type 0} → Result X E → List X → List X
kept (Ok x) xs = xs ++ (x ∷ [])
kept (Err e) xs = xs

-- the place of what was made behind the others, or its refusal
abbrev pub place_of : {X E : Type 0} → Result X E → List X → Result ℕ E
place_of (Ok x) xs = Ok (length xs)
place_of (Err e) xs = Err e

-- four rows of 64 counts
abbrev pub rows : List ℕ → List (List ℕ)
rows cs = take 64 (drop 0 cs) ∷ take 64 (drop 64 cs) ∷ take 64 (drop 128 cs) ∷ take 64 (drop 192 cs) ∷ []

-- a stair that is made is kept behind the others, and its line tells its place; a refused one leaves its refusal
abbrev pub with_stair : Result Stair stair.Refusal → Read → Read
with_stair made s = record {
  lines = s.lines ++ (line.Stair (place_of made s.stairs) ∷ []);
  outlooks = s.outlooks;
  stairs = kept made s.stairs;
}

-- the line of a stair: 256 counts of 32 bits
unfoldable pub stair_line : List (List ℕ) → Read → Option Read
stair_line ws s =
    cond (length ws == 257) (then (values (unsigned 32) (drop 1 ws)) (λ cs. Some (with_stair (stair_made (rows cs)) s))) None

-- the entries of an outlook, unless a question refuses it
abbrev pub unless : Option outlook.Refusal → List ℕ → Result (List ℕ) outlook.Refusal
unless None entries = Ok entries
unless (Some q) entries = Err q

-- an outlook that is made is kept behind the others, and its line tells its place; a refused one leaves its refusal
abbrev pub with_outlook : (Result ℕ outlook.Refusal → Line) → Result (List ℕ) outlook.Refusal → Read → Read
with_outlook f made s = record {
  lines = s.lines ++ (f (place_of made s.outlooks) ∷ []);
  outlooks = kept made s.outlooks;
  stairs = s.stairs;
}

-- the line of a list: any number of bytes
unfoldable pub list_line : List (List ℕ) → Read → Option Read
list_line ws s = then (values (unsigned 8) (drop 1 ws)) (λ bs. Some (with_outlook (λ p. line.List p) (unless (list_question bs) bs) s))

-- the line of a pattern: any number of bytes, which stand for their repetition
unfoldable pub pattern_line : List (List ℕ) → Read → Option Read
pattern_line ws s =
    then (values (unsigned 8) (drop 1 ws)) (λ bs. Some (with_outlook (λ p. line.Pattern p) (unless (pattern_question bs) (repeated bs)) s))

-- any other line
unfoldable pub other_line : List (List ℕ) → Read → Option Read
other_line ws s = then (said ws) (λ l. Some (with_line l s))

-- what a script holds after the words of a line, if they make one
abbrev pub words_read : List (List ℕ) → Read → Option Read
words_read ws s =
    cond (bytes_eq (slice_index_or ws 0 []) (codes "stair")) (stair_line ws s)
    (cond (bytes_eq (slice_index_or ws 0 []) (codes "list")) (list_line ws s)
    (cond (bytes_eq (slice_index_or ws 0 []) (codes "pattern")) (pattern_line ws s) (other_line ws s)))

-- an outlook that was made, or its refusal; nothing for want of memory
abbrev pub settled : Result Known NotMade → Option (Result Known outlook.Refusal)
settled (Ok k) = Some (Ok k)
settled (Err (unmade.Refused q)) = Some (Err q)
settled (Err unmade.NoMemory) = None
