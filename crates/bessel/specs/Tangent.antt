-- The tangent by straight lines between the entries of a table.
use Rattle.std.specs.Prelude.{ℕ, ◌+◌, ◌-◌, ◌*◌, ◌/◌, ◌^◌, min, List, [], ◌∷◌, slice_index}

-- the tangents of 0 to 17 eighteenths of a quarter turn, in Q12
unfoldable pub tans : List ℕ
tans = 0 ∷ 358 ∷ 722 ∷ 1098 ∷ 1491 ∷ 1910 ∷ 2365 ∷ 2868 ∷ 3437 ∷ 4096 ∷ 4881 ∷ 5850 ∷ 7094 ∷ 8784 ∷ 11254 ∷ 15286 ∷ 23230 ∷ 46817 ∷ []

-- entry i of the table
unfoldable pub tan : ℕ → ℕ
tan i = slice_index tans i

-- the entry at or below alpha half turns, alpha in Q24; the last one that has another after it is 16
abbrev pub tan_place : ℕ → ℕ
tan_place alpha = min (alpha * 36 / 2 ^ 24) 16

-- the tangent of alpha half turns in Q12, rounded down: from the entry along the whole slope to the next
unfoldable pub warped : ℕ → ℕ
warped alpha =
    (tan (tan_place alpha) * 2 ^ 32 + (tan (tan_place alpha + 1) - tan (tan_place alpha)) * 2 ^ 8 * (alpha * 36 - tan_place alpha * 2 ^ 24))
    / 2 ^ 32
