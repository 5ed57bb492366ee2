-- The index that stands for a quantizer q in a table that never falls.
use Rattle.std.specs.Prelude.{◌≡◌, ℕ, suc, ◌+◌, ◌-◌, ◌*◌, ◌<◌, ◌≤◌, Bool, true, false, cond, List, [], ◌∷◌, length, ℤ, pos, ◌*ℤ◌, ◌≤ℤ◌, ◌<ℤ◌, int_le, int_lt, slice_index}

-- a table of 256 entries, none of which is below an earlier one
pub record Table (t : List ℕ) : Type 0 where
  pub size : length t ≡ 256
  pub rises : (i j : ℕ) → i ≤ j → j < 256 → slice_index t i ≤ slice_index t j

-- the rules: i is the index that stands for q in t
pub record Chosen (t : List ℕ) (q : ℤ) (i : ℕ) : Type 0 where
  -- below the first entry it is 0
  pub low : q <ℤ pos (slice_index t 0) → i ≡ 0
  -- from the last entry on it is 255
  pub high : pos (slice_index t 255) ≤ℤ q → i ≡ 255
  -- an entry equal to q, and below the last, wins: the first such
  pub hit : (k : ℕ) → k < 256 → pos (slice_index t k) ≡ q → ((j : ℕ) → j < k → pos (slice_index t j) <ℤ q) → q <ℤ pos (slice_index t 255) → i ≡ k
  -- strictly between neighbours s and t, it is the lower exactly if q * q < s * t
  pub between : (k : ℕ) → k + 1 < 256 → pos (slice_index t k) <ℤ q → q <ℤ pos (slice_index t (k + 1))
      → i ≡ cond (int_lt (q *ℤ q) (pos (slice_index t k * slice_index t (k + 1)))) k (k + 1)

-- The same as a function.

-- one more where the entry in front is below q, else none
abbrev pub step : Bool → ℕ → ℕ
step true n = suc n
step false n = 0

-- how many entries at the front of a table lie below q
abbrev pub under : ℤ → List ℕ → ℕ
under q [] = 0
under q (x ∷ xs) = step (int_lt (pos x) q) (under q xs)

-- q lies above the entry before k and not above the entry at k: k where it is equal, else the nearer by the logarithm
abbrev pub nearer : List ℕ → ℤ → ℕ → ℕ
nearer t q k = cond (int_le (pos (slice_index t k)) q) k (cond (int_lt (q *ℤ q) (pos (slice_index t (k - 1) * slice_index t k))) (k - 1) k)

-- the index that stands for q
unfoldable pub index : List ℕ → ℤ → ℕ
index t q = cond (int_lt q (pos (slice_index t 0))) 0 (cond (int_le (pos (slice_index t 255)) q) 255 (nearer t q (under q t)))

-- in a table that never falls the rules choose `index`, and nothing else
abbrev pub OneIndex : Type 0
OneIndex = (t : List ℕ) → Table t → (q : ℤ) → Chosen t q (index t q) × ((i : ℕ) → Chosen t q i → i ≡ index t q)
