-- What a list of entries comes to.
use Rattle.std.specs.Prelude.{ℕ, ◌+◌, ◌*◌, ◌≤◌, Bool, List, [], ◌∷◌, count_by, slice_index}
use Rattle.outlook.specs.Bytes.{is_kind, is_frame, is_shown}
use Rattle.outlook.specs.declared.counts.Counts.{Counts}

-- a figure for each of the five subtypes, for the frames and for the shown entries
abbrev pub figures : ((ℕ → Bool) → ℕ) → Counts
figures f = record {
  kinds = f (is_kind 0) ∷ f (is_kind 1) ∷ f (is_kind 2) ∷ f (is_kind 3) ∷ f (is_kind 4) ∷ [];
  frames = f is_frame;
  shown = f is_shown;
}

-- how many entries of a list are of each subtype, frames, and shown
abbrev pub tally : List ℕ → Counts
tally xs = figures (λ p. count_by p xs)

-- the five counts of subtypes one by one
abbrev pub kind : ℕ → Counts → ℕ
kind k c = slice_index c.kinds k

-- two counts together
abbrev pub both : Counts → Counts → Counts
both a b = record {
  kinds = (kind 0 a + kind 0 b) ∷ (kind 1 a + kind 1 b) ∷ (kind 2 a + kind 2 b) ∷ (kind 3 a + kind 3 b) ∷ (kind 4 a + kind 4 b) ∷ [];
  frames = a.frames + b.frames;
  shown = a.shown + b.shown;
}

-- a count taken n times
abbrev pub times : ℕ → Counts → Counts
times n a = record {
  kinds = (n * kind 0 a) ∷ (n * kind 1 a) ∷ (n * kind 2 a) ∷ (n * kind 3 a) ∷ (n * kind 4 a) ∷ [];
  frames = n * a.frames;
  shown = n * a.shown;
}

-- no figure is above n
abbrev pub Within : ℕ → Counts → Type 0
Within n c = (kind 0 c ≤ n) × (kind 1 c ≤ n) × (kind 2 c ≤ n) × (kind 3 c ≤ n) × (kind 4 c ≤ n) × (c.frames ≤ n) × (c.shown ≤ n)
