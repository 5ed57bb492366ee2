-- What counting is, in the words of the subject: laws of the front part and of the counts of any list.
use Rattle.std.specs.Prelude.{◌≡◌, ℕ, ◌+◌, ◌%◌, ◌<◌, ◌≤◌, true, List, [], ◌∷◌, ◌++◌, length, take, slice_index}
use Rattle.std.specs.List.{AllByRecursion}
use Rattle.outlook.specs.Bytes.{is_shown, Lawful, front, repeated}
use Rattle.outlook.specs.Counting.{tally, kind}

-- the front part of a list for u units
pub record FrontStands (u : ℕ) (xs : List ℕ) : Type 0 where
  -- the list begins with it
  pub prefix : (rest : List ℕ) × (front u xs ++ rest ≡ xs)
  -- it has at most u shown entries
  pub most : (tally (front u xs)).shown ≤ u
  -- it has exactly u, if the list has that many
  pub reached : u ≤ (tally xs).shown → (tally (front u xs)).shown ≡ u
  -- else it is the whole list
  pub whole : (tally xs).shown < u → front u xs ≡ xs
  -- whatever other front part has u shown entries is no shorter
  pub shortest : (n : ℕ) → u ≤ (tally (take n xs)).shown → length (front u xs) ≤ n
  -- where it is not the whole list, it ends with a shown entry
  pub ends : 0 < u → length (front u xs) < length xs → (before : List ℕ) × (x : ℕ) × (front u xs ≡ before ++ (x ∷ [])) × (is_shown x ≡ true)

-- the counts of a list
pub record TallyStands (xs : List ℕ) : Type 0 where
  -- the frames are those of subtypes 0 to 3
  pub frames : (tally xs).frames ≡ kind 0 (tally xs) + kind 1 (tally xs) + kind 2 (tally xs) + kind 3 (tally xs)
  -- each entry is a frame or a show of an existing frame
  pub each : AllByRecursion Lawful xs → length xs ≡ (tally xs).frames + kind 4 (tally xs)
  -- each show of an existing frame is shown
  pub shows : AllByRecursion Lawful xs → kind 4 (tally xs) ≤ (tally xs).shown

-- so for any units and any list
abbrev pub CountsStand : Type 0
CountsStand = (u : ℕ) (xs : List ℕ) → FrontStands u xs × TallyStands xs

-- the repetition of a pattern
pub record RepeatedStands (xs : List ℕ) : Type 0 where
  -- it has 4,096 entries
  pub size : length (repeated xs) ≡ 4096
  -- each is the pattern's, counted round
  pub places : (i : ℕ) → i < 4096 → slice_index (repeated xs) i ≡ slice_index xs (i % length xs)

-- so for any pattern that is not empty
abbrev pub PatternsStand : Type 0
PatternsStand = (xs : List ℕ) → 0 < length xs → RepeatedStands xs
