-- The eight questions put to settings, in order: a call stops at its first no.
use Rattle.std.specs.Prelude.{ℕ, ◌^◌, Bool, true, false, Ok, Err, Result, nat_le}
use Rattle.std.specs.Option.{ok_or}
use Rattle.tables.specs.declared.depth.Depth.{Depth}
use Rattle.quantize.specs.declared.sampling.ChromaSampling.{ChromaSampling}
use Rattle.tables.specs.Depths.{depth_of}
use Rattle.quantize.specs.Planes.{sampling_of}
pub use Rattle.quantize.specs.Call.{and_then}
use Rattle.setup.specs.declared.refusal.Refusal.{Refusal}
use Rattle.setup.specs.declared.refusal.Refusal.TheVariants.{Size, Rate, Bitrate, Depth as NoDepth, Sampling, Indexes, Timing, Limit}
use Rattle.setup.specs.declared.settings.Settings.{Settings}
use Rattle.setup.specs.declared.settings.Accepted.{Accepted}
use Rattle.setup.specs.Tests.{in_range, lawful_highest, sized, rated, timed}
use Rattle.setup.specs.Opening.{credit_of, units_of, limit_of, accepted_of}

-- the number of each question
abbrev pub number : Refusal → ℕ
number Size = 1
number Rate = 2
number Bitrate = 3
number NoDepth = 4
number Sampling = 5
number Indexes = 6
number Timing = 7
number Limit = 8

-- a question that is answered by yes or no
abbrev pub answered : Bool → Refusal → Result (Unit {0}) Refusal
answered true e = Ok tt
answered false e = Err e

-- questions 1 to 7, and the depth and the sampling that they find
abbrev pub typed : Settings → Result (Depth × ChromaSampling) Refusal
typed s =
    and_then (answered (sized s) Size) (λ _.
    and_then (answered (rated s) Rate) (λ _.
    and_then (answered (in_range 1 2147483647 s.bitrate) Bitrate) (λ _.
    and_then (ok_or (depth_of s.depth) NoDepth) (λ d.
    and_then (ok_or (sampling_of s.sampling) Sampling) (λ m.
    and_then (answered (lawful_highest s.lowest s.highest) Indexes) (λ _.
    and_then (answered (timed s) Timing) (λ _. Ok (d, m))))))))

-- question 8, whether the limit is at most 2^35, and the figures
abbrev pub limited : Settings → Depth × ChromaSampling → Result Accepted Refusal
limited s p =
    and_then (answered (nat_le (limit_of s) (2 ^ 35)) Limit) (λ _. Ok (accepted_of s p.0 p.1 (credit_of s) (units_of s)))

-- the figures of the settings, or the first question that is answered by no
abbrev pub accepted : Settings → Result Accepted Refusal
accepted s = and_then (typed s) (limited s)
