-- What a subtype's filter predicts and how it learns. Q57 says that 2^57 stands for 1, and Q24 that 2^24 does.
use Rattle.std.specs.Prelude.{ℕ, ◌+◌, ◌-◌, ◌*◌, ◌^◌, min, max, Bool, cond, ◌&&◌, ◌||◌, ℤ, pos, negsuc, ◌+ℤ◌, ◌==◌, nat_lt}
use Rattle.std.specs.Int.{int_min}
use Rattle.logexp.specs.LogExp.{bexp64, blog64}
use Rattle.logexp.specs.Held.{◌⊕◌, ◌⊖◌, ◌⊗◌, ◌≫◌}
use Rattle.bessel.specs.Follow.{standing, delayed, restarted, filtered, smoothed}
use Rattle.model.specs.declared.lesson.Lesson.{Lesson}
use Rattle.model.specs.declared.filter.Filter.{Filter}
use Rattle.model.specs.declared.filter.Guess.{Guess}

-- from Q57 to the nearest in Q24, halves up
abbrev pub q24 : ℤ → ℤ
q24 v = (v ≫ 32 +ℤ pos 1) ≫ 1

-- from Q24 to Q57, held
abbrev pub q57 : ℤ → ℤ
q57 v = v ⊗ pos (2 ^ 33)

-- an exponent is at least 1
abbrev pub exponent : Filter → ℕ
exponent f = max f.exp 1

-- the log of the quantizer's power: the log quantizer, from Q57 to Q51 to the nearest, times the exponent in Q6
abbrev pub powered : ℤ → ℤ → ℤ
powered q e = ((q ⊕ pos 32) ≫ 6) ⊗ e

-- the power by a filter's exponent
abbrev pub power : Filter → ℤ → ℤ
power f q = powered q (pos (exponent f))

-- a number kept within 0 to 2 ^ 63 - 1
abbrev pub counted : ℤ → ℕ
counted (pos n) = min n (2 ^ 63 - 1)
counted (negsuc n) = 0

-- the bits that a filter predicts: the exponential of its log scale and the log of the pixels, less the power
unfoldable pub filter_bits : Filter → ℤ → ℤ → ℤ
filter_bits f pixels q = bexp64 ((f.log_scale ⊕ pixels) ⊖ power f q)

-- the count that a filter predicts
abbrev pub filter_count : Filter → ℤ → ℤ → ℕ
filter_count f pixels q = counted (filter_bits f pixels q)

-- the log scale that would have predicted the bits: their log, less that of the pixels, and the power; at most 16 doublings
unfoldable pub scale_of : ℤ → ℕ → ℤ → ℤ
scale_of pixels bits p = int_min ((blog64 (pos bits) ⊖ pixels) ⊕ p) (pos (16 * 2 ^ 57))

-- after a first lesson or a trial: the scale is the one that was seen, and so is all that the follower took and gave
abbrev pub begun : Filter → ℤ → Filter
begun f scale = record {
  follower = restarted f.follower (q24 scale);
  log_scale = scale;
  exp = f.exp;
  delay = f.delay;
}

-- does a later lesson first lengthen the delay? of an inter subtype, below the target, and at most the reports before
-- it
abbrev pub lengthens : Filter → ℕ → Lesson → Bool
lengthens f target l = nat_lt 0 l.subtype && (nat_lt f.delay target && nat_lt f.delay (l.reports + 1))

-- a delay that is longer by 1, with its parameters
abbrev pub longer : Filter → Filter
longer f = record {
  follower = delayed f.follower (f.delay + 1);
  log_scale = f.log_scale;
  exp = f.exp;
  delay = f.delay + 1;
}

-- the filter with its delay lengthened where it is to be
abbrev pub lengthened : Filter → ℕ → Lesson → Filter
lengthened f target l = cond (lengthens f target l) (longer f) f

-- the follower takes x, and its output is the scale
abbrev pub followed : Filter → ℤ → Filter
followed f x = record {
  follower = filtered f.follower x;
  log_scale = q57 (smoothed f.follower x);
  exp = f.exp;
  delay = f.delay;
}

-- a lesson: a trial, or no report before it, begins anew; any other lengthens the delay where it is to be, and follows
unfoldable pub filter_next : Filter → ℤ → ℕ → Lesson → Filter
filter_next f pixels target l =
    cond (l.trial || l.reports == 0)
    (begun f (scale_of pixels l.bits (power f l.log_q)))
    (followed (lengthened f target l) (q24 (scale_of pixels l.bits (power f l.log_q))))

-- the log of n eighths
abbrev pub first_scale : ℕ → ℤ
first_scale n = blog64 (pos n) ⊖ pos (3 * 2 ^ 57)

-- a filter that has learnt nothing: the exponent and the scale of a guess, and a follower that stands at that scale
abbrev pub fresh_filter : Guess → ℕ → Filter
fresh_filter g delay = record {
  follower = standing delay (q24 (first_scale g.eighths));
  log_scale = first_scale g.eighths;
  exp = g.exp;
  delay = delay;
}
