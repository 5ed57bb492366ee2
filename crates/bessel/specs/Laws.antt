-- A law of the step: with parameters in range nothing is held.
use Rattle.std.specs.Prelude.{◌≡◌, ◌^◌, ◌≤◌, ℤ, pos, ◌+ℤ◌, ◌*ℤ◌, unsigned_abs}
use Rattle.bessel.specs.Parameters.{InRange}
use Rattle.bessel.specs.declared.parameters.Parameters.{Parameters}
use Rattle.bessel.specs.Follow.{inputs, weighed}

-- a number of 32 bits, signed
abbrev pub Fits32 : ℤ → Type 0
Fits32 v = unsigned_abs v ≤ 2 ^ 31

-- the weighed sum of inputs and outputs of 32 bits is the plain one, for all parameters in range
abbrev pub NeverHeld : Type 0
NeverHeld =
    (x x0 x1 y0 y1 : ℤ) (p : Parameters) → Fits32 x → Fits32 x0 → Fits32 x1 → Fits32 y0 → Fits32 y1 → InRange p
    → weighed p (inputs x x0 x1) y0 y1
    ≡ ((((x +ℤ x0 *ℤ pos 2) +ℤ x1) *ℤ p.g +ℤ y0 *ℤ p.c0) +ℤ y1 *ℤ p.c1) +ℤ pos (2 ^ 23)
