-- The three bit depths, and which table serves which coefficient at each.
use Rattle.std.specs.Prelude.{ℕ, ◌*◌, ◌^◌, cond, List, [], ◌∷◌, ℤ, pos, Some, None, Option, ◌==◌}
use Rattle.std.specs.List.{AllByRecursion}
use Rattle.tables.specs.declared.coefficient.Coefficient.{Coefficient}
use Rattle.tables.specs.declared.coefficient.Coefficient.TheVariants.{Dc, Ac}
use Rattle.tables.specs.declared.depth.Depth.{Depth}
use Rattle.tables.specs.declared.depth.Depth.TheVariants.{Eight, Ten, Twelve}
use Rattle.tables.specs.Tables.{dc8, dc10, dc12, ac8, ac10, ac12}
use Rattle.tables.specs.Choice.{Table}

-- is the depth 8, 10 or 12?
abbrev pub depth_of : ℕ → Option Depth
depth_of bits = cond (bits == 8) (Some Eight) (cond (bits == 10) (Some Ten) (cond (bits == 12) (Some Twelve) None))

-- a log has 2^57 steps to a doubling
abbrev pub doublings : ℕ → ℤ
doublings k = pos (k * 2 ^ 57)

-- depth - 5 doublings
abbrev pub depth_log : Depth → ℤ
depth_log Eight = doublings 3
depth_log Ten = doublings 5
depth_log Twelve = doublings 7

-- the DC table of a depth
unfoldable pub dc_table : Depth → List ℕ
dc_table Eight = dc8
dc_table Ten = dc10
dc_table Twelve = dc12

-- the AC table of a depth
unfoldable pub ac_table : Depth → List ℕ
ac_table Eight = ac8
ac_table Ten = ac10
ac_table Twelve = ac12

-- the table of a coefficient at a depth
abbrev pub table : Coefficient → Depth → List ℕ
table Dc d = dc_table d
table Ac d = ac_table d

-- the six tables
unfoldable pub tables : List (List ℕ)
tables = dc8 ∷ dc10 ∷ dc12 ∷ ac8 ∷ ac10 ∷ ac12 ∷ []

-- none of the six falls anywhere among its 256 entries
abbrev pub NeverFalls : Type 0
NeverFalls = AllByRecursion Table tables
