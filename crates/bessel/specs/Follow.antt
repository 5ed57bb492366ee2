-- The follower's state and its step.
use Rattle.std.specs.Prelude.{ℕ, ◌^◌, [], ◌∷◌, ℤ, pos, slice_index_or}
use Rattle.std.specs.Int.{int_wrap, w32}
use Rattle.logexp.specs.Held.{◌⊕◌, ◌⊗◌, ◌≫◌}
use Rattle.bessel.specs.Parameters.{parameters}
use Rattle.bessel.specs.declared.parameters.Parameters.{Parameters}
use Rattle.bessel.specs.declared.follower.IIRBessel2.{IIRBessel2}

-- a follower of a delay that has stood at the value v for long
abbrev pub standing : ℕ → ℤ → IIRBessel2
standing delay v = record {
  parameters = parameters delay;
  x = v ∷ v ∷ [];
  y = v ∷ v ∷ [];
}

-- the same inputs and outputs with the parameters of another delay
abbrev pub delayed : IIRBessel2 → ℕ → IIRBessel2
delayed f delay = record {
  parameters = parameters delay;
  x = f.x;
  y = f.y;
}

-- the same parameters, with the value v for all that went in and came out
abbrev pub restarted : IIRBessel2 → ℤ → IIRBessel2
restarted f v = record { parameters = f.parameters; x = v ∷ v ∷ []; y = v ∷ v ∷ [] }

-- the newest output
abbrev pub newest : IIRBessel2 → ℤ
newest f = slice_index_or f.y 0 (pos 0)

-- the newest input, twice the one before and the one before that, each sum and product held
abbrev pub inputs : ℤ → ℤ → ℤ → ℤ
inputs x x0 x1 = (x ⊕ x0 ⊗ pos 2) ⊕ x1

-- the inputs times the gain, the outputs times their weights, and a half in Q24, each sum and product held
abbrev pub weighed : Parameters → ℤ → ℤ → ℤ → ℤ
weighed p xs y0 y1 = ((xs ⊗ p.g ⊕ y0 ⊗ p.c0) ⊕ y1 ⊗ p.c1) ⊕ pos (2 ^ 23)

-- the output at the next input x: the weighed sum, from Q48 to Q24 rounded down, keeps its low 32 bits, signed
unfoldable pub smoothed : IIRBessel2 → ℤ → ℤ
smoothed f x = int_wrap w32
    (weighed f.parameters (inputs x (slice_index_or f.x 0 (pos 0)) (slice_index_or f.x 1 (pos 0))) (slice_index_or f.y 0 (pos 0)) (slice_index_or f.y 1 (pos 0)) ≫ 24)

-- the follower after the input x: input and output come first, and the older ones move on
abbrev pub filtered : IIRBessel2 → ℤ → IIRBessel2
filtered f x = record {
  parameters = f.parameters;
  x = x ∷ slice_index_or f.x 0 (pos 0) ∷ [];
  y = smoothed f x ∷ slice_index_or f.y 0 (pos 0) ∷ [];
}
