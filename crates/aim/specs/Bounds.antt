-- The bounds of a frame's base and log quantizer.
use Rattle.std.specs.Prelude.{ℕ, Bool, true, false, cond, ℤ, pos, Some, None, Option, ◌==◌}
use Rattle.std.specs.Int.{int_min, int_max}
use Rattle.logexp.specs.Held.{◌⊕◌, ◌⊖◌}
use Rattle.tables.specs.declared.depth.Depth.{Depth}
use Rattle.flat.specs.declared.subtype.Subtype.{Subtype}
use Rattle.flat.specs.declared.flat.FlatQuantizer.{FlatQuantizer}
use Rattle.flat.specs.Flat.{flat_of}
use Rattle.aim.specs.declared.bounds.Aim.{Aim}

-- the highest index, 255 where none is set
abbrev pub highest_of : Option ℕ → ℕ
highest_of None = 255
highest_of (Some i) = i

-- whether a highest index is set
abbrev pub set_of : Option ℕ → Bool
set_of None = false
set_of (Some i) = true

-- how far a base may lie from the previous frame's
abbrev pub reach : ℤ
reach = pos 0xA4_D3C2_5E68_DC58

-- a base within that reach of the previous one
abbrev pub within_reach : ℤ → ℤ → ℤ
within_reach p b = int_max (p ⊖ reach) (int_min b (p ⊕ reach))

-- the base, no farther from the previous one than that, if there was one
unfoldable pub near : Option ℤ → ℤ → ℤ
near None b = b
near (Some p) b = within_reach p b

-- neither base nor log above those of an index
abbrev pub at_most : Aim → FlatQuantizer → Aim
at_most a f = record { log_base_q = int_min a.log_base_q f.log_base_q; log_q = int_min a.log_q f.log_q }

-- neither base nor log below those of an index
abbrev pub at_least : Aim → FlatQuantizer → Aim
at_least a f = record { log_base_q = int_max a.log_base_q f.log_base_q; log_q = int_max a.log_q f.log_q }

-- no higher than the highest index stands for, if one is set
unfoldable pub under : Option ℕ → Depth → Subtype → Aim → Aim
under None d k a = a
under (Some i) d k a = at_most a (flat_of i d k)

-- no lower than the lowest index stands for, if it is above 0
unfoldable pub over : ℕ → Depth → Subtype → Aim → Aim
over i d k a = cond (i == 0) a (at_least a (flat_of i d k))
