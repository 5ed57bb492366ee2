-- The index of each plane from the log of its quantizer.
use Rattle.std.specs.Prelude.{◌≡◌, ℕ, ◌+◌, ◌-◌, ◌<◌, ◌≤◌, min, max, ℤ, pos, Float}
use Rattle.logexp.specs.Held.{◌⊕◌, ◌⊖◌, ◌⊗◌}
use Rattle.logexp.specs.LogExp.{bexp64}
use Rattle.tables.specs.declared.coefficient.Coefficient.{Coefficient}
use Rattle.tables.specs.declared.coefficient.Coefficient.TheVariants.{Dc, Ac}
use Rattle.tables.specs.declared.depth.Depth.{Depth}
use Rattle.tables.specs.Choice.{index}
use Rattle.tables.specs.Depths.{table, doublings, depth_log}
use Rattle.quantize.specs.Scale.{quotient, kept}

-- how far an index may lie from the luma AC index
abbrev pub reach : ℕ
reach = 63

-- the least and the greatest index that may go with a luma AC index a
abbrev pub lowest : ℕ → ℕ
lowest a = max 1 (a - reach)

abbrev pub highest : ℕ → ℕ
highest a = min 255 (a + reach)

-- an index brought between the two
abbrev pub within : ℕ → ℕ → ℕ
within a i = max (lowest a) (min i (highest a))

-- the quantizer of a plane with the log q, in the scale of the tables
abbrev pub plane_quantizer : ℤ → Depth → ℤ → ℤ
plane_quantizer q d mean = bexp64 (q ⊕ (mean ⊕ depth_log d))

-- the scale of a plane with the log q: the square of the ratio of the frame's quantizer to the plane's
abbrev pub scale_of : ℤ → ℤ → Float
scale_of target q = quotient (kept (bexp64 ((target ⊖ q) ⊗ pos 2 ⊕ doublings 16)))

-- the luma AC index of luma's log y: at least 1
abbrev pub luma_index : ℤ → Depth → ℤ → ℕ
luma_index y d mean = max 1 (index (table Ac d) (plane_quantizer y d mean))

-- the index of a plane with the log q in the table of a coefficient, beside the luma AC index a
abbrev pub plane_index : Coefficient → ℕ → ℤ → Depth → ℤ → ℕ
plane_index c a q d mean = within a (index (table c d) (plane_quantizer q d mean))

-- the DC index of a plane
abbrev pub dc_index : ℕ → ℤ → Depth → ℤ → ℕ
dc_index a q d mean = plane_index Dc a q d mean

-- the AC index of a chroma plane
abbrev pub ac_index : ℕ → ℤ → Depth → ℤ → ℕ
ac_index a q d mean = plane_index Ac a q d mean

-- an index r may go with the luma AC index a
pub record GoesWith (a r : ℕ) : Type 0 where
  pub least : 1 ≤ r
  pub most : r ≤ 255
  pub under_by : a ≤ r + reach
  pub over_by : r ≤ a + reach

-- `within` moves no index that may go with a already, and any other only to the nearer end
pub record Brought (a i r : ℕ) : Type 0 where
  pub goes : GoesWith a r
  pub same : lowest a ≤ i → i ≤ highest a → r ≡ i
  pub raised : i < lowest a → r ≡ lowest a
  pub lowered : highest a < i → r ≡ highest a

abbrev pub AllBrought : Type 0
AllBrought = (a i : ℕ) → 1 ≤ a → a ≤ 255 → Brought a i (within a i)
