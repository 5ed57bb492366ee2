-- The stair: its steps, its counts and its making.
use Rattle.std.specs.Prelude.{ℕ, zero, suc, ◌-◌, ◌^◌, min, Bool, true, cond, ◌&&◌, List, [], ℤ, pos, negsuc, ◌+ℤ◌, Ok, Err, Result, nat_le, nat_lt, slice_index, slice_index_or}
use Rattle.std.specs.Int.Signed.{shr_z}
use Rattle.model.specs.Meaning.{Meaning}
use Rattle.stair.specs.declared.refusal.Refusal.{Refusal}
use Rattle.stair.specs.declared.refusal.Refusal.TheVariants.{Rises}
use Rattle.stair.specs.declared.stair.Stair.{Stair}

-- the number of the refusal
abbrev pub number : Refusal → ℕ
number Rises = 34

-- a number kept within 0 to 63
abbrev pub kept : ℤ → ℕ
kept (pos n) = min n 63
kept (negsuc n) = 0

-- the step of a log quantizer q: q / 2^55, rounded down, and 24
abbrev pub step : ℤ → ℕ
step q = kept (shr_z q (2 ^ 55) +ℤ pos 24)

-- a count of 32 bits
abbrev pub count32 : ℕ → ℕ
count32 n = min n (2 ^ 32 - 1)

-- the count of a subtype's row on the step, and 0 above subtype 3
abbrev pub stair_count : List (List ℕ) → ℕ → ℤ → ℕ
stair_count rows k q = cond (nat_lt k 4) (count32 (slice_index (slice_index_or rows k []) (step q))) 0

-- what the stair means as a bit model: it trims nothing and learns nothing
abbrev pub stair_meaning : Meaning Stair
stair_meaning = record { count = λ m k q. stair_count m.rows k q; trimmed = λ m k q r. q; next = λ m l. m }

-- does none of the first k steps of a row rise?
unfoldable pub descends : List ℕ → ℕ → Bool
descends row zero = true
descends row (suc k) = nat_le (slice_index row (suc k)) (slice_index row k) && descends row k

-- does none of the four rows ever rise?
abbrev pub lawful_rows : List (List ℕ) → Bool
lawful_rows rows =
    descends (slice_index_or rows 0 []) 63 && (descends (slice_index_or rows 1 []) 63 && (descends (slice_index_or rows 2 []) 63 && descends (slice_index_or rows 3 []) 63))

-- the stair with these rows, or the refusal where one of them rises
abbrev pub stair_made : List (List ℕ) → Result Stair Refusal
stair_made rows = cond (lawful_rows rows) (Ok (record { rows = rows })) (Err Rises)
