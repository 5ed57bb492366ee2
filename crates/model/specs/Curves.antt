-- The curve model: a filter for each subtype, and the logs that they share.
use Rattle.std.specs.Prelude.{ℕ, ◌/◌, cond, ◌||◌, List, [], ◌∷◌, ℤ, pos, Ok, Result, ◌==◌, int_lt, nat_lt, slice_index_or, slice_set}
use Rattle.model.specs.Scales.{filter_count, filter_next, fresh_filter}
use Rattle.logexp.specs.LogExp.{blog64}
use Rattle.setup.specs.Opening.{pixels_of, credit_of, units_of}
use Rattle.setup.specs.Questions.{and_then, accepted}
use Rattle.setup.specs.declared.settings.Settings.{Settings}
use Rattle.setup.specs.declared.refusal.Refusal.{Refusal}
use Rattle.model.specs.Trims.{filter_trim}
use Rattle.model.specs.Meaning.{Meaning}
use Rattle.model.specs.declared.lesson.Lesson.{Lesson}
use Rattle.model.specs.declared.room.Room.{Room}
use Rattle.model.specs.declared.filter.Filter.{Filter}
use Rattle.model.specs.declared.filter.Guess.{Guess}
use Rattle.model.specs.declared.curve.Curve.{Curve}

-- what stands past the table's end
abbrev pub blank : Filter
blank = record { follower = record { parameters = record { c0 = pos 0; c1 = pos 0; g = pos 0 }; x = []; y = [] }; log_scale = pos 0; exp = 0; delay = 0 }

-- the count of a subtype's filter, and 0 above subtype 3
abbrev pub curve_count : Curve → ℕ → ℤ → ℕ
curve_count m k q = cond (nat_lt k 4) (filter_count (slice_index_or m.filters k blank) m.log_npixels q) 0

-- what a subtype's filter trims to; a subtype above 3 or a limit under 1 leaves the log quantizer as it is
abbrev pub curve_trimmed : Curve → ℕ → ℤ → Room → ℤ
curve_trimmed m k q r =
    cond (nat_lt 3 k || int_lt r.limit (pos 1)) q (filter_trim (slice_index_or m.filters k blank) m.log_npixels q r)

-- a lesson changes one filter of the table
abbrev pub taught : Curve → ℕ → Filter → Curve
taught m k f = record { filters = slice_set m.filters k f; log_npixels = m.log_npixels; inter_delay_target = m.inter_delay_target }

-- the curve after a lesson; a subtype above 3 or no bits teach nothing
abbrev pub curve_next : Curve → Lesson → Curve
curve_next m l =
    cond (nat_lt 3 l.subtype || l.bits == 0) m
    (taught m l.subtype (filter_next (slice_index_or m.filters l.subtype blank) m.log_npixels m.inter_delay_target l))

-- what the curve means as a bit model
abbrev pub curve_meaning : Meaning Curve
curve_meaning = record { count = curve_count; trimmed = curve_trimmed; next = curve_next }

-- the guess by the pixels to a bit: one below low, one below high, one from there on
abbrev pub guessed : ℕ → ℕ → ℕ → Guess → Guess → Guess → Guess
guessed n low high few some many = cond (nat_lt n low) few (cond (nat_lt n high) some many)

-- the four filters before any lesson, by the pixels to a bit
unfoldable pub fresh_filters : ℕ → List Filter
fresh_filters n =
    fresh_filter (guessed n 1 4 (record { exp = 48; eighths = 36 }) (record { exp = 61; eighths = 55 }) (record { exp = 77; eighths = 129 })) 4
    ∷ fresh_filter (guessed n 2 139 (record { exp = 69; eighths = 32 }) (record { exp = 104; eighths = 84 }) (record { exp = 83; eighths = 19 })) 10
    ∷ fresh_filter (guessed n 2 92 (record { exp = 84; eighths = 30 }) (record { exp = 120; eighths = 68 }) (record { exp = 68; eighths = 4 })) 10
    ∷ fresh_filter (guessed n 2 126 (record { exp = 87; eighths = 27 }) (record { exp = 139; eighths = 84 }) (record { exp = 61; eighths = 1 })) 10
    ∷ []

-- the curve of accepted settings: the delays of the inter subtypes lengthen up to half the reservoir's
unfoldable pub curve_of : Settings → Curve
curve_of s = record {
  filters = fresh_filters (pixels_of s / credit_of s);
  log_npixels = blog64 (pos (pixels_of s));
  inter_delay_target = units_of s / 2;
}

-- the curve that settings ask for, or the first question that is answered by no
abbrev pub curve_made : Settings → Result Curve Refusal
curve_made s = and_then (accepted s) (λ _. Ok (curve_of s))
