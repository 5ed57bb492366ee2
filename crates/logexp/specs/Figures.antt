-- Worked figures of both functions.
use Rattle.std.specs.Prelude.{◌≡◌, ◌+◌, ◌*◌, ◌^◌, [], ◌∷◌, pos, negsuc}
use Rattle.logexp.specs.LogExp.{blog64, bexp64}

-- the logarithms of 0 and of 2^62 + 1, and the powers of two of -1 (in Q57), 0 and 62
abbrev pub FiguresHold : Type 0
FiguresHold =
    (blog64 (pos 0) ∷ blog64 (pos (2 ^ 62 + 1)) ∷ bexp64 (negsuc 0) ∷ bexp64 (pos 0)
    ∷ bexp64 (pos (62 * 2 ^ 57)) ∷ [])
    ≡ (negsuc 0 ∷ pos (62 * 2 ^ 57) ∷ pos 0 ∷ pos 1 ∷ pos (2 ^ 62) ∷ [])
