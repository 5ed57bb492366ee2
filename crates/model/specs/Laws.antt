-- Laws of the curve model in the subject's words, and a worked opening.
use Rattle.std.specs.Prelude.{◌≡◌, ℕ, zero, suc, ◌+◌, ◌^◌, ◌<◌, ◌≤◌, max, true, false, cond, ◌||◌, List, [], ◌∷◌, length, ℤ, pos, ◌+ℤ◌, ◌-ℤ◌, ◌≤ℤ◌, Some, None, Ok, ◌==◌, ◌≢◌, nat_lt, slice_index_or, unsigned_abs}
use Rattle.tables.specs.declared.depth.Depth.TheVariants.{Eight}
use Rattle.quantize.specs.declared.sampling.ChromaSampling.TheVariants.{Cs420}
use Rattle.logexp.specs.LogExp.{blog64, bexp64}
use Rattle.bessel.specs.Follow.{restarted}
use Rattle.model.specs.Scales.{q24, power, counted, scale_of}
use Rattle.model.specs.Curves.{blank, curve_count, curve_next, curve_of}
use Rattle.setup.specs.Questions.{accepted}
use Rattle.model.specs.declared.lesson.Lesson.{Lesson}
use Rattle.model.specs.declared.filter.Filter.{Filter}
use Rattle.model.specs.declared.curve.Curve.{Curve}
use Rattle.setup.specs.declared.settings.Settings.{Settings}

-- the filter of a subtype
abbrev pub filter_at : Curve → ℕ → Filter
filter_at m k = slice_index_or m.filters k blank

-- ---- bounds over whole runs of lessons

-- the first delay of a subtype's follower
abbrev pub first_delay : ℕ → ℕ
first_delay zero = 4
first_delay (suc k) = 10

-- an exponent is at least 1; the delay of subtype 0 is 4, that of another lies from 10 to the target
pub record Bounded (target k : ℕ) (f : Filter) : Type 0 where
  pub exp_least : 1 ≤ f.exp
  pub delay_least : first_delay k ≤ f.delay
  pub delay_most : f.delay ≤ max (first_delay k) (cond (nat_lt 0 k) target 0)

-- all four filters are within their bounds
abbrev pub AllBounded : Curve → Type 0
AllBounded m = (k : ℕ) → k < 4 → Bounded m.inter_delay_target k (filter_at m k)

-- the curve after one lesson after another
unfoldable pub lessons : Curve → List Lesson → Curve
lessons m [] = m
lessons m (l ∷ ls) = lessons (curve_next m l) ls

-- the delays of a curve lengthen to at most 512, and no lesson takes a filter out of its bounds
abbrev pub StaysBounded : Curve → Type 0
StaysBounded m = (m.inter_delay_target ≤ 512) × ((ls : List Lesson) → AllBounded (lessons m ls))

-- a fresh curve stays within the bounds whatever it is taught, so that no floor of a definition is ever reached
abbrev pub BoundsKept : Type 0
BoundsKept = (s : Settings) (ls : List Lesson) → AllBounded (lessons (curve_of s) ls)

-- ---- one lesson

-- a lesson leaves the other three filters, their scales in them, and what all four share
abbrev pub OthersKept : Type 0
OthersKept =
    (m : Curve) (l : Lesson) (j : ℕ) → (j ≢ l.subtype)
    → (filter_at (curve_next m l) j ≡ filter_at m j)
    × ((curve_next m l).log_npixels ≡ m.log_npixels)
    × ((curve_next m l).inter_delay_target ≡ m.inter_delay_target)

-- a lesson that begins anew: of a subtype that the curve has, with bits, in a trial or with no report before it
pub record Begins (m : Curve) (l : Lesson) : Type 0 where
  pub known : l.subtype < 4
  pub there : l.subtype < length m.filters
  pub some_bits : 0 < l.bits
  pub first : (l.trial || l.reports == 0) ≡ true

-- after it the scale is the one just seen, and all that the follower took and gave is that scale in Q24
abbrev pub ScaleAgrees : Type 0
ScaleAgrees =
    (m : Curve) (l : Lesson) → Begins m l
    → ((filter_at (curve_next m l) l.subtype).log_scale ≡ scale_of m.log_npixels l.bits (power (filter_at m l.subtype) l.log_q))
    × ((filter_at (curve_next m l) l.subtype).follower
    ≡ restarted (filter_at m l.subtype).follower (q24 (filter_at (curve_next m l) l.subtype).log_scale))

-- the logs of a lesson from which nothing is held and whose scale is not cut: both logs from 0 to 32 doublings, the power nearer than 32 to 0, the scale at most 16
pub record Unheld (log_bits pixels p : ℤ) : Type 0 where
  pub bits_least : pos 0 ≤ℤ log_bits
  pub bits_most : log_bits ≤ℤ pos (2 ^ 62)
  pub pixels_least : pos 0 ≤ℤ pixels
  pub pixels_most : pixels ≤ℤ pos (2 ^ 62)
  pub power_in : unsigned_abs p < 2 ^ 62
  pub scale_most : ((log_bits -ℤ pixels) +ℤ p) ≤ℤ pos (2 ^ 61)

-- then the curve predicts, at the log quantizer of the lesson, the exponential of the logarithm of the bits seen
abbrev pub SeenAgain : Type 0
SeenAgain =
    (m : Curve) (l : Lesson) → Begins m l
    → Unheld (blog64 (pos l.bits)) m.log_npixels (power (filter_at m l.subtype) l.log_q)
    → curve_count (curve_next m l) l.subtype l.log_q ≡ counted (bexp64 (blog64 (pos l.bits)))

-- what is predicted then, r, lies between the powers of two around the bits b
abbrev pub NearSeen : ℕ → ℤ → Type 0
NearSeen b r = (m : ℕ) → 2 ^ m ≤ b → b < 2 ^ (m + 1) → (pos (2 ^ m) ≤ℤ r) × (r ≤ℤ pos (2 ^ (m + 1)))

-- ---- a worked opening

-- 640 by 360 at 25/1 and 1,000,000 bits per second, 8 bits, 4:2:0, no highest index, a delay of 12
abbrev pub small_frame : Settings
small_frame = record {
  width = 640;
  height = 360;
  numerator = 25;
  denominator = 1;
  bitrate = 1000000;
  depth = 8;
  sampling = 0;
  lowest = 0;
  highest = None;
  interval = 240;
  delay = Some 12;
  dropping = false;
}

-- it opens with credit 39,984, limit 479,808 and fullness 239,904
abbrev pub FiguresHold : Type 0
FiguresHold = accepted small_frame ≡ Ok (record {
  depth = Eight;
  sampling = Cs420;
  lowest = 0;
  highest = None;
  credit = pos 39984;
  delay = 12;
  limit = pos 479808;
  target = pos 239904;
  dropping = false;
})
