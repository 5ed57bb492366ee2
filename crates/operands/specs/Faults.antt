-- What is told of the words of a line that are malformed. A line's name is word 0.
use Rattle.std.specs.Prelude.{◌≡◌, ℕ, ◌-◌, List, [], length, None, Option, slice_index_or}
use Rattle.operands.specs.declared.fault.Fault as fault
use Rattle.operands.specs.declared.fault.Fault.TheVariants as faults
use Rattle.operands.specs.declared.fault.Malformed as malformed
use Rattle.operands.specs.declared.fault.Malformed.TheVariants.{Unknown, Count, Operand}
use Rattle.operands.specs.declared.kind.Wanted.{Wanted}

-- the name of the line is told as no name of such a thing
abbrev pub IsUnknown : malformed.Malformed → List ℕ → List (List ℕ) → Type 0
IsUnknown (Unknown what word) w ws = (what.now ≡ w) × (word.now ≡ slice_index_or ws 0 [])
IsUnknown (Count name takes which found) w ws = ⊥
IsUnknown (Operand name place word wanted) w ws = ⊥

-- the operands are told to be n, which are named, and how many there are in their place
abbrev pub IsCount : malformed.Malformed → ℕ → List ℕ → List (List ℕ) → Type 0
IsCount (Unknown what word) n w ws = ⊥
IsCount (Count name takes which found) n w ws =
    (name.now ≡ slice_index_or ws 0 []) × (takes ≡ n) × (which.now ≡ w) × (found ≡ length ws - 1)
IsCount (Operand name place word wanted) n w ws = ⊥

-- the operand at a place is told as not what it has to be
abbrev pub IsOperand : malformed.Malformed → ℕ → Wanted → List (List ℕ) → Type 0
IsOperand (Unknown what word) n k ws = ⊥
IsOperand (Count name takes which found) n k ws = ⊥
IsOperand (Operand name place word wanted) n k ws =
    (name.now ≡ slice_index_or ws 0 []) × (place ≡ n) × (word.now ≡ slice_index_or ws n []) × (wanted ≡ k)

-- why something is told as wrong: it is nothing; want of memory says nothing
abbrev pub Told : {X : Type 0} → Option X → fault.Fault → Type 0
Told o (faults.Malformed m) = o ≡ None
Told o faults.NotText = ⊥
Told o faults.NoMemory = Unit {0}
