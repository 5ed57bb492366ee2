-- What always holds of a reservoir and of a core.
use Rattle.std.specs.Prelude.{◌≡◌, ℕ, ◌*◌, ◌^◌, ◌≤◌, pos, ◌+ℤ◌, ◌*ℤ◌, neg_ℤ, ◌≤ℤ◌, slice_index}
use Rattle.logexp.specs.Held.{◌≫◌}
use Rattle.aim.specs.Bounds.{highest_of}
use Rattle.controller.specs.declared.state.Reservoir.{Reservoir}
use Rattle.controller.specs.declared.state.Core.{Core}

-- what keeps each sum of a reservoir within 64 bits, so that none is held
pub record Level (r : Reservoir) : Type 0 where
  pub credit_least : pos 24 ≤ℤ r.credit
  pub credit_most : r.credit ≤ℤ r.limit
  pub limit_most : r.limit ≤ℤ pos (2 ^ 35)
  pub full : r.fullness ≤ℤ r.limit
  pub deep : neg_ℤ (pos (2 ^ 62)) ≤ℤ r.fullness

-- the facts of a controller's type, of its core
pub record Sound (s : Core) : Type 0 where
  -- a credit is at least 24 bits, and no more than the reservoir holds
  pub credit_least : pos 24 ≤ℤ s.reservoir.credit
  pub credit_most : s.reservoir.credit ≤ℤ s.reservoir.limit
  -- the limit is as many credits as the delay has units
  pub limit_is : s.reservoir.limit ≡ s.reservoir.credit *ℤ pos s.profile.delay
  pub limit_most : s.reservoir.limit ≤ℤ pos (2 ^ 35)
  -- the target is half of the limit, rounded up
  pub target_is : s.reservoir.target ≡ (s.reservoir.limit +ℤ pos 1) ≫ 1
  -- the reservoir is never over its limit, and an accepted report or show takes less than 2^32 bits
  pub full : s.reservoir.fullness ≤ℤ s.reservoir.limit
  pub deep : neg_ℤ (pos (2 ^ 32 * s.accepted)) ≤ℤ s.reservoir.fullness
  pub few : s.accepted ≤ 2 ^ 30
  pub coded_few : s.coded ≤ s.accepted
  pub reports_few : (k : ℕ) → slice_index s.reports k ≤ s.accepted
  -- the highest index is not under the lowest
  pub ordered : s.profile.lowest ≤ highest_of s.profile.highest
