-- The lines of a text and the words of a line, from their bytes. `is_ascii_whitespace` is the library's
-- test for a tab, a line feed, a form feed, a carriage return or a blank.
use Rattle.std.specs.Prelude.{◌≡◌, ℕ, ◌-◌, ◌<◌, ◌≤◌, Bool, true, false, cond, List, [], ◌∷◌, ◌++◌, take, IsUtf8, ◌==◌, ◌≢◌, nat_eq, slice_index}
use Rattle.std.specs.Str.{IsValidUpTo}
use Rattle.std.specs.Char.{is_ascii_whitespace}

-- what stands of a line before its first `#`, which is byte 35
abbrev pub before_comment : List ℕ → List ℕ
before_comment [] = []
before_comment (c ∷ cs) = cond (c == 35) [] (c ∷ before_comment cs)

-- a word that has ended stands before the later ones; an empty one is none
abbrev pub ended : List ℕ → List (List ℕ) → List (List ℕ)
ended [] ws = ws
ended (c ∷ cs) ws = (c ∷ cs) ∷ ws

-- the pieces of w and then the text, cut at each byte that passes the test, where none of w does;
-- `add` puts a piece before the later ones
abbrev pub parted : (List ℕ → List (List ℕ) → List (List ℕ)) → (ℕ → Bool) → List ℕ → List ℕ → List (List ℕ)
parted add test w [] = add w []
parted add test w (c ∷ cs) = cond (test c) (add w (parted add test [] cs)) (parted add test (w ++ (c ∷ [])) cs)

-- the words of a line: what stands before its comment, cut at white space, without empty pieces
abbrev pub words_in : List ℕ → List (List ℕ)
words_in line = parted ended is_ascii_whitespace [] (before_comment line)

-- the lines of a text, cut at each line feed, which is byte 10; what follows the last is a line too
unfoldable pub lines_in : List ℕ → List (List ℕ)
lines_in text = parted (λ line later. line ∷ later) (λ c. nat_eq c 10) [] text

-- the line in which the byte at stop stands begins at start: a line feed, byte 10, stands right
-- before start, unless the text begins there, and none from there up to stop
pub record LineStart (bs : List ℕ) (stop start : ℕ) : Type 0 where
  pub within : start ≤ stop
  pub after : 0 < start → slice_index bs (start - 1) ≡ 10
  pub none : (k : ℕ) → start ≤ k → k < stop → slice_index bs k ≢ 10

-- text is all of the bytes, which are UTF-8; or it is the lines before the one in which the first
-- byte stands that no UTF-8 can go on with
abbrev pub TextOf : List ℕ → List ℕ → Bool → Type 0
TextOf bs text true = (text ≡ bs) × IsUtf8 bs
TextOf bs text false = (stop : ℕ) × (start : ℕ) × IsValidUpTo bs stop × LineStart bs stop start × (text ≡ take start bs)
