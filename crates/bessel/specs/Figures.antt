-- Worked figures of the tangent and of the parameters.
use Rattle.std.specs.Prelude.{◌≡◌, ◌/◌, ◌^◌, [], ◌∷◌, pos, negsuc}
use Rattle.bessel.specs.Tangent.{tans, tan, warped}
use Rattle.bessel.specs.Parameters.{parameters}

-- the tangents of the delays 4 and 10, and their parameters
abbrev pub FiguresHold : Type 0
FiguresHold =
    ((warped (2 ^ 24 / 4) ∷ warped (2 ^ 24 / 10) ∷ []) ≡ (4096 ∷ 1333 ∷ []))
    × ((parameters 4 ∷ parameters 10 ∷ [])
    ≡ (record { c0 = negsuc 9586980; c1 = negsuc 2396744; g = pos 7190235 } ∷ record { c0 = pos 9979394; c1 = negsuc 2497001; g = pos 2323706 } ∷ []))

-- all that a figure has to compute: a proof that computes says `unfolding computing`
unfoldable pub computing : Unit {0}
unfolding tans tan warped parameters
computing = tt
