-- What a bit model means, and the laws that every bit model keeps.
use Rattle.std.specs.Prelude.{◌≡◌, ℕ, ◌^◌, ◌<◌, ℤ, pos, ◌<ℤ◌, ◌≢◌}
use Rattle.model.specs.declared.lesson.Lesson.{Lesson}
use Rattle.model.specs.declared.room.Room.{Room}

-- what a model predicts, what it trims to, and what a lesson makes of it
pub record Meaning (M : Type 0) : Type 0 where
  -- the predicted bits of a subtype at a log quantizer
  pub count : M → ℕ → ℤ → ℕ
  -- what trim answers for a subtype, a log quantizer and the room of the frame
  pub trimmed : M → ℕ → ℤ → Room → ℤ
  -- the model after a lesson
  pub next : M → Lesson → M

-- what always holds of it
pub record ModelLaws {M : Type 0} (meaning : Meaning M) : Type 0 where
  -- a count is at most 2^63 - 1
  pub small : (m : M) (k : ℕ) (q : ℤ) → meaning.count m k q < 2 ^ 63
  -- a subtype above 3 has no bits
  pub none : (m : M) (k : ℕ) (q : ℤ) → 3 < k → meaning.count m k q ≡ 0
  -- a lesson changes no other subtype's counts
  pub others : (m : M) (l : Lesson) (j : ℕ) (p : ℤ) → (j ≢ l.subtype) → meaning.count (meaning.next m l) j p ≡ meaning.count m j p
  -- a subtype above 3 teaches nothing
  pub still : (m : M) (l : Lesson) → 3 < l.subtype → meaning.next m l ≡ m
  -- bits under 1 teach nothing
  pub idle : (m : M) (l : Lesson) → l.bits ≡ 0 → meaning.next m l ≡ m
  -- a subtype above 3 is not trimmed
  pub passed : (m : M) (k : ℕ) (q : ℤ) (r : Room) → 3 < k → meaning.trimmed m k q r ≡ q
  -- nothing is trimmed at a limit under 1
  pub unlimited : (m : M) (k : ℕ) (q : ℤ) (r : Room) → r.limit <ℤ pos 1 → meaning.trimmed m k q r ≡ q
