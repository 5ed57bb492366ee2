-- The words of a line, and what they write.
use Rattle.std.specs.Prelude.{ℕ, List, [], ◌∷◌, Some, Option}
use Rattle.words.specs.Words.{texts, then}
use Rattle.operands.specs.declared.operands.Operands.{Operands}

-- the bytes of each word
abbrev pub words_of : Operands → List (List ℕ)
words_of o = texts o.words.now

-- the values that some words write, where each writes one
unfoldable pub values : {X : Type 0} → (List ℕ → Option X) → List (List ℕ) → Option (List X)
values read [] = Some []
values read (w ∷ ws) = then (read w) (λ x. then (values read ws) (λ xs. Some (x ∷ xs)))
