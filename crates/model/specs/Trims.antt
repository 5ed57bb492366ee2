-- How a filter trims a log quantizer: the soft limit, then the hard limit. Every sum, difference and product is held.
use Rattle.std.specs.Prelude.{ℕ, ◌/◌, ◌^◌, Bool, true, false, cond, ℤ, pos, int_div, int_lt}
use Rattle.std.specs.Int.{int_min}
use Rattle.logexp.specs.LogExp.{blog64}
use Rattle.logexp.specs.Held.{◌⊕◌, ◌⊖◌, ◌⊗◌, ◌≫◌}
use Rattle.bessel.specs.Follow.{newest}
use Rattle.model.specs.Scales.{q57, exponent, powered}
use Rattle.model.specs.declared.room.Room.{Room}
use Rattle.model.specs.declared.filter.Filter.{Filter}

-- the margin, the part of the reservoir that is left for errors of prediction: a 32nd of the limit, rounded up
abbrev pub margin_of : ℤ → ℤ
margin_of l = (l ⊕ pos 31) ≫ 5

-- the soft limit, the bits that the next frame should use at least: fullness and credit, less what lies below the margin
abbrev pub soft_of : Room → ℤ → ℤ
soft_of r margin = (r.fullness ⊕ r.credit) ⊖ (r.limit ⊖ margin)

-- the hard limit, the bits that the next frame may use at most: fullness and half the credit
abbrev pub hard_of : Room → ℤ
hard_of r = r.fullness ⊕ r.credit ≫ 1

-- how far into the margin that is, in Q32: at most 1, the fraction dropped
abbrev pub share_of : ℤ → ℤ → ℤ
share_of margin soft = int_div (int_min margin soft ⊗ pos (2 ^ 32)) margin

-- a power divided by the exponent: half the exponent is added first, and the fraction dropped towards 0
abbrev pub rooted : ℤ → ℕ → ℤ
rooted p e = int_div (p ⊕ pos (e / 2)) (pos e)

-- the log quantizer whose power is p, in Q57
abbrev pub unpowered : ℤ → ℕ → ℤ
unpowered p e = rooted p e ⊗ pos (2 ^ 6)

-- the power p, moved by its share of the way to the one that uses the soft limit
abbrev pub eased : ℤ → ℤ → ℤ → ℤ → ℤ
eased p pixels log share = p ⊕ (((pixels ⊖ log) ⊖ p) ≫ 32) ⊗ share

-- the soft limit: where it is above 0 and the frame would use less, the log quantizer of the eased power
unfoldable pub soft_trim : ℕ → ℤ → ℤ → ℤ → ℤ → ℤ
soft_trim e pixels q soft margin =
    cond (int_lt (pos 0) soft)
    (cond (int_lt (pixels ⊖ powered q (pos e)) (blog64 soft))
    (unpowered (eased (powered q (pos e)) pixels (blog64 soft) (share_of margin soft)) e)
    q)
    q

-- the hard limit: where the frame would use more, the log quantizer that uses just as much
unfoldable pub hard_trim : ℕ → ℤ → ℤ → ℤ → ℤ
hard_trim e pixels q hard =
    cond (int_lt (blog64 hard) (pixels ⊖ powered q (pos e)))
    (unpowered (pixels ⊖ blog64 hard) e)
    q

-- the hard limit, unless a highest index is set
unfoldable pub hard_unless : Bool → ℕ → ℤ → ℤ → ℤ → ℤ
hard_unless true e pixels q hard = q
hard_unless false e pixels q hard = hard_trim e pixels q hard

-- the log of the follower's newest scale times the pixels
abbrev pub scaled_pixels : Filter → ℤ → ℤ
scaled_pixels f pixels = q57 (newest f.follower) ⊕ pixels

-- the soft limit, then the hard limit
unfoldable pub filter_trim : Filter → ℤ → ℤ → Room → ℤ
filter_trim f pixels q r =
    hard_unless r.highest (exponent f) (scaled_pixels f pixels)
    (soft_trim (exponent f) (scaled_pixels f pixels) q (soft_of r (margin_of r.limit)) (margin_of r.limit))
    (hard_of r)
