-- The stair's law in the subject's words.
use Rattle.std.specs.Prelude.{ℕ, ◌≤◌, ℤ, ◌≤ℤ◌}
use Rattle.stair.specs.declared.stair.Stair.{Stair}
use Rattle.stair.specs.Stairs.{stair_count}

-- a higher log quantizer never predicts more, whatever the subtype
abbrev pub NeverMore : Stair → Type 0
NeverMore m = (k : ℕ) (q p : ℤ) → q ≤ℤ p → stair_count m.rows k p ≤ stair_count m.rows k q
