-- The logs of table entries, the subtypes' distances, and the quantizer of an index without rate control.
use Rattle.std.specs.Prelude.{ℕ, ◌+◌, ◌-◌, ◌*◌, ◌/◌, ◌^◌, ◌<◌, ◌≤◌, Bool, cond, ◌||◌, ℤ, pos, neg_ℤ, ◌≤ℤ◌, ◌<ℤ◌, Some, None, Option, ◌==◌, int_lt, nat_lt, slice_index}
use Rattle.logexp.specs.Held.{◌⊕◌, ◌⊖◌, ◌≪◌, ◌≫◌}
use Rattle.logexp.specs.LogExp.{blog64}
use Rattle.tables.specs.declared.depth.Depth.{Depth}
use Rattle.tables.specs.declared.depth.Depth.TheVariants.{Eight, Ten, Twelve}
use Rattle.flat.specs.declared.subtype.Subtype.{Subtype}
use Rattle.flat.specs.declared.subtype.Subtype.TheVariants.{I, P, B0, B1}
use Rattle.flat.specs.declared.flat.FlatQuantizer.{FlatQuantizer}
use Rattle.tables.specs.Choice.{index}
use Rattle.tables.specs.Depths.{dc_table, ac_table, doublings, depth_log}

-- a log lies within k doublings of 0
pub record Near (k : ℕ) (z : ℤ) : Type 0 where
  pub least : neg_ℤ (doublings k) <ℤ z
  pub most : z <ℤ doublings k

-- is the subtype 0, 1, 2 or 3?
abbrev pub subtype_of_code : ℕ → Option Subtype
subtype_of_code code = cond (code == 0) (Some I) (cond (code == 1) (Some P) (cond (code == 2) (Some B0) (cond (code == 3) (Some B1) None)))

-- the code of a subtype
abbrev pub code_of : Subtype → ℕ
code_of I = 0
code_of P = 1
code_of B0 = 2
code_of B1 = 3

-- the distance of the subtypes' logs: 8 times the whole number nearest to 33,810,170 × 2^54 / 86,043,287
abbrev pub subtype_distance : ℕ
subtype_distance = 8 * ((2 * (33810170 * 2 ^ 54) + 86043287) / (2 * 86043287))

-- how far the log of a subtype lies from the base
abbrev pub distance : Subtype → ℤ
distance I = neg_ℤ (pos subtype_distance)
distance P = pos 0
distance B0 = pos subtype_distance
distance B1 = pos (2 * subtype_distance)

-- the log of a subtype from the base: the base to the nearest multiple of 2^12, and the distance
unfoldable pub log_q_of : Subtype → ℤ → ℤ
log_q_of s base = (base ⊕ pos (2 ^ 11)) ≫ 12 ≪ 12 ⊕ distance s

-- the log of a table's entry, less depth - 5 doublings
abbrev pub entry_log : ℕ → Depth → ℤ
entry_log entry d = blog64 (pos entry) ⊖ depth_log d

-- depth + 3 doublings, which no entry's log reaches
abbrev pub top_log : Depth → ℕ
top_log Eight = 11
top_log Ten = 13
top_log Twelve = 15

-- an entry's log lies below them: the entry is less than half as large, or its log says so
unfoldable pub log_under : Depth → ℕ → Bool
log_under d entry = nat_lt entry (2 ^ (top_log d - 1)) || int_lt (blog64 (pos entry)) (doublings (top_log d))

-- the log of the AC entry of an index
unfoldable pub ac_log : ℕ → Depth → ℤ
ac_log i d = entry_log (slice_index (ac_table d) i) d

-- the DC entry that stands for an AC entry
abbrev pub matching : ℕ → Depth → ℕ
matching entry d = slice_index (dc_table d) (index (dc_table d) (pos entry))

-- the middle of two logs, rounded up
abbrev pub middle : ℤ → ℤ → ℤ
middle a b = (a ⊕ b ⊕ pos 1) ≫ 1

-- midway between the logs of an AC entry and of the DC entry that stands for it
abbrev pub flat_log : ℕ → Depth → ℤ
flat_log entry d = middle (entry_log entry d) (entry_log (matching entry d) d)

-- the base log of an index without rate control
unfoldable pub flat_base : ℕ → Depth → ℤ
flat_base i d = flat_log (slice_index (ac_table d) i) d

-- the base log of an index, and the log of a subtype there
abbrev pub flat_of : ℕ → Depth → Subtype → FlatQuantizer
flat_of i d s = record { log_base_q = flat_base i d; log_q = log_q_of s (flat_base i d) }

-- a log that never falls from index to index, and lies within 8 doublings of 0
pub record Ordered (log : ℕ → ℤ) : Type 0 where
  pub rises : (i j : ℕ) → i ≤ j → j < 256 → log i ≤ℤ log j
  pub near : (i : ℕ) → i < 256 → Near 8 (log i)

-- so do the logs of the AC entries, and the base logs without rate control
abbrev pub LogsOrdered : Type 0
LogsOrdered = (d : Depth) → Ordered (λ i. ac_log i d) × Ordered (λ i. flat_base i d)
