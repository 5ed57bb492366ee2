-- The figures that follow from settings: credit, delay, limit and target.
use Rattle.std.specs.Prelude.{◌≡◌, ℕ, ◌+◌, ◌-◌, ◌*◌, ◌/◌, ◌^◌, ◌≤◌, min, max, true, pos, ◌+ℤ◌, ◌*ℤ◌, ◌≤ℤ◌, ◌<ℤ◌, Some, None, Option}
use Rattle.logexp.specs.Held.{◌≫◌}
use Rattle.tables.specs.declared.depth.Depth.{Depth}
use Rattle.quantize.specs.declared.sampling.ChromaSampling.{ChromaSampling}
use Rattle.setup.specs.declared.settings.Settings.{Settings}
use Rattle.setup.specs.declared.settings.Accepted.{Accepted}
use Rattle.setup.specs.Tests.{sized, rated, timed}

-- what the figures need of the answers to questions 1, 2 and 7
abbrev pub Lawful : Settings → Type 0
Lawful s = (sized s ≡ true) × (rated s ≡ true) × (timed s ≡ true)

-- the pixels of a frame
abbrev pub pixels_of : Settings → ℕ
pixels_of s = s.width * s.height

-- credit, the bits that each shown frame brings: bitrate x denominator / numerator, rounded down, kept within 40 to 2^46, less the 16 bits of a temporal delimiter
abbrev pub credit_of : Settings → ℕ
credit_of s = max 40 (min (s.bitrate * s.denominator / s.numerator) (2 ^ 46)) - 16

-- a delay that is absent is 3/2 of the key interval, rounded down, at most 240 and at least 12
abbrev pub units_from : ℕ → Option ℕ → ℕ
units_from interval None = max 12 (min (interval * 3 / 2) 240)
units_from interval (Some d) = d

-- the reservoir's delay in temporal units
abbrev pub units_of : Settings → ℕ
units_of s = units_from s.interval s.delay

-- the limit: as many credits as the delay has units
abbrev pub limit_of : Settings → ℕ
limit_of s = credit_of s * units_of s

-- the figures from a credit and a delay: the limit is their product, and the target is half of it, rounded up
abbrev pub accepted_of : Settings → Depth → ChromaSampling → ℕ → ℕ → Accepted
accepted_of s depth sampling credit delay = record {
  depth = depth;
  sampling = sampling;
  lowest = s.lowest;
  highest = s.highest;
  credit = pos credit;
  delay = delay;
  limit = pos (credit * delay);
  target = pos ((credit * delay + 1) / 2);
  dropping = s.dropping;
}

-- what holds of all accepted figures
pub record Sound (a : Accepted) : Type 0 where
  pub credit_least : pos 24 ≤ℤ a.credit
  pub credit_most : a.credit <ℤ pos (2 ^ 46)
  pub delay_least : 12 ≤ a.delay
  pub delay_most : a.delay ≤ 1024
  pub limit_is : a.limit ≡ a.credit *ℤ pos a.delay
  pub limit_most : a.limit ≤ℤ pos (2 ^ 35)
  pub target_is : a.target ≡ (a.limit +ℤ pos 1) ≫ 1
