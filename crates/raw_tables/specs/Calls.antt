-- The calls of the tables with raw numbers: their question, its refusal, and their answers.
use Rattle.std.specs.Prelude.{ℕ, ℤ, Ok, Err, Result, slice_index, IfOk}
use Rattle.std.specs.Option.{ok_or}
use Rattle.tables.specs.declared.coefficient.Coefficient.{Coefficient}
use Rattle.tables.specs.declared.depth.Depth.{Depth}
use Rattle.tables.specs.Choice.{index}
use Rattle.tables.specs.Depths.{depth_of, table}
use Rattle.raw_tables.specs.declared.refusal.Refusal.{Refusal}
use Rattle.raw_tables.specs.declared.refusal.Refusal.TheVariants.{NoSuchDepth, NoSuchSampling}

-- the number of each refusal
abbrev pub number : Refusal → ℕ
number NoSuchDepth = 4
number NoSuchSampling = 5

-- go on with what was answered; a call stops at its first refusal
abbrev pub and_then : {X Y E : Type 0} → Result X E → (X → Result Y E) → Result Y E
and_then (Ok x) f = f x
and_then (Err e) f = Err e

-- is the depth 8, 10 or 12? no: refusal 4
abbrev pub depth_asked : ℕ → Result Depth Refusal
depth_asked bits = ok_or (depth_of bits) NoSuchDepth

-- the entry of an index in the table of a coefficient
abbrev pub answer : Coefficient → ℕ → ℕ → Result ℕ Refusal
answer c i bits = and_then (depth_asked bits) (λ d. Ok (slice_index (table c d) i))

-- the index that stands for a quantizer in the table of a coefficient
abbrev pub select_answer : Coefficient → ℤ → ℕ → Result ℕ Refusal
select_answer c q bits = and_then (depth_asked bits) (λ d. Ok (index (table c d) q))

-- a result by its number: 0 where the call was accepted
abbrev pub number_of : {X : Type 0} → Result X Refusal → ℕ
number_of (Ok x) = 0
number_of (Err e) = number e

-- what holds of an accepted answer at the depth that was asked for
abbrev pub AtDepth : {X : Type 0} → ℕ → Result X Refusal → (Depth → X → Type 0) → Type 0
AtDepth bits r P = IfOk (depth_asked bits) (λ d. IfOk r (P d))
