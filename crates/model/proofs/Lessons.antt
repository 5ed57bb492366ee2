-- What one lesson changes and what it leaves.
use Rattle.std.proofs.Common.{◌≡◌, ◌*◌, ◌^◌, ◌<◌, Bool, true, false, cond, ◌||◌, eqb, ltb, ℤ, pos, negsuc, ◌+ℤ◌, ◌-ℤ◌, nat_abs, ◌≤ℤ◌, sym, refl, ap, ◌∙◌, arith}
use Rattle.std.specs.Int.{int_min}
use Rattle.std.proofs.lemmas.Int.{ints, clamps}
use Rattle.std.proofs.lemmas.Bool.Decides.{nat_tests}
use Rattle.std.proofs.lemmas.List.{get_or-set_same, get_or-set_other}
use Rattle.logexp.specs.Held.{held, ◌⊕◌, ◌⊖◌}
use Rattle.logexp.specs.LogExp.{blog64, bexp64}
use Rattle.bessel.specs.Follow.{restarted}
use Rattle.model.specs.Scales.{q24, power, counted, scale_of, begun, filter_bits, filter_count, filter_next}
use Rattle.model.specs.Curves.{blank, curve_next, taught}
use Rattle.model.specs.Laws.{filter_at, OthersKept, Begins, ScaleAgrees, Unheld, SeenAgain}
use Rattle.model.specs.declared.lesson.Lesson.{Lesson}
use Rattle.model.specs.declared.filter.Filter.{Filter}
use Rattle.model.specs.declared.curve.Curve.{Curve}

-- the filter that a lesson puts in its place
abbrev pub learnt : Curve → Lesson → Filter
learnt m l = filter_next (filter_at m l.subtype) m.log_npixels m.inter_delay_target l

-- a lesson changes nothing, or one filter
pub by_ways : (P : Curve → Type 0) (m : Curve) (l : Lesson)
    → P m → P (taught m l.subtype (learnt m l)) → P (curve_next m l)
by_ways P m l h g =
    elim (ltb 3 l.subtype || eqb l.bits 0) as (λ w. P (cond w m (taught m l.subtype (learnt m l)))) [ true ↦ h | false ↦ g ]

pub others_kept : OthersKept
others_kept m l j d =
    by_ways
    (λ r. (filter_at r j ≡ filter_at m j) × (r.log_npixels ≡ m.log_npixels) × (r.inter_delay_target ≡ m.inter_delay_target))
    m l (refl, refl, refl)
    (get_or-set_other m.filters l.subtype j (learnt m l) blank d, refl, refl)

-- a lesson that begins anew puts the filter that has begun in its place
begun_at : (m : Curve) (l : Lesson) → Begins m l
    → filter_at (curve_next m l) l.subtype ≡ begun (filter_at m l.subtype) (scale_of m.log_npixels l.bits (power (filter_at m l.subtype) l.log_q))
unfolding filter_next
begun_at m l h =
    let z = h.known in
    let s = h.some_bits in
    let w : (ltb 3 l.subtype || eqb l.bits 0) ≡ false = grind (arith, nat_tests) in
    let e : learnt m l ≡ begun (filter_at m l.subtype) (scale_of m.log_npixels l.bits (power (filter_at m l.subtype) l.log_q)) = rw h.first refl in
    ap (λ (v : Bool). filter_at (cond v m (taught m l.subtype (learnt m l))) l.subtype) w
    ∙ get_or-set_same m.filters l.subtype (learnt m l) blank h.there
    ∙ e

pub scale_agrees : ScaleAgrees
scale_agrees m l h =
    let e = begun_at m l h in
    let s = ap (λ (f : Filter). f.log_scale) e in
    (s, ap (λ (f : Filter). f.follower) e ∙ ap (λ (z : ℤ). restarted (filter_at m l.subtype).follower (q24 z)) (sym s))

held_as : (a : ℤ) → nat_abs a < 2 ^ 63 → held a ≡ a
held_as (pos n) h = omega (arith, ints)
held_as (negsuc n) h = omega (arith, ints)

least_as : (a b : ℤ) → a ≤ℤ b → int_min a b ≡ a
least_as a b h = omega (arith, ints, clamps)

-- the scale that is seen gives the log of the bits back
back : (l n p : ℤ) → Unheld l n p → (int_min ((l ⊖ n) ⊕ p) (pos (16 * 2 ^ 57)) ⊕ n) ⊖ p ≡ l
back l n p h =
    let a1 = h.bits_least in
    let a2 = h.bits_most in
    let a3 = h.pixels_least in
    let a4 = h.pixels_most in
    let a5 = h.power_in in
    let a6 = h.scale_most in
    let e1 : l ⊖ n ≡ l -ℤ n = held_as (l -ℤ n) (omega (arith, ints)) in
    let e2 : (l -ℤ n) ⊕ p ≡ (l -ℤ n) +ℤ p = held_as ((l -ℤ n) +ℤ p) (omega (arith, ints)) in
    let e3 : int_min ((l -ℤ n) +ℤ p) (pos (16 * 2 ^ 57)) ≡ (l -ℤ n) +ℤ p = least_as _ _ a6 in
    let e4 : ((l -ℤ n) +ℤ p) ⊕ n ≡ ((l -ℤ n) +ℤ p) +ℤ n = held_as _ (omega (arith, ints)) in
    let e5 : (((l -ℤ n) +ℤ p) +ℤ n) ⊖ p ≡ l = held_as _ (omega (arith, ints)) ∙ omega (arith, ints) in
    rw (e1, e2, e3, e4) e5

pub seen_again : SeenAgain
unfolding filter_bits scale_of
seen_again m l h u =
    let e = begun_at m l h in
    let z = h.known in
    let w : ltb l.subtype 4 ≡ true = grind arith in
    let g = back (blog64 (pos l.bits)) m.log_npixels (power (filter_at m l.subtype) l.log_q) u in
    let x : (curve_next m l).log_npixels ≡ m.log_npixels = by_ways (λ r. r.log_npixels ≡ m.log_npixels) m l refl refl in
    ap (λ (v : Bool). cond v (filter_count (filter_at (curve_next m l) l.subtype) (curve_next m l).log_npixels l.log_q) 0) w
    ∙ ap (λ (f : Filter). filter_count f (curve_next m l).log_npixels l.log_q) e
    ∙ ap (λ (z : ℤ). filter_count (begun (filter_at m l.subtype) (scale_of m.log_npixels l.bits (power (filter_at m l.subtype) l.log_q))) z l.log_q) x
    ∙ ap (λ (z : ℤ). counted (bexp64 z)) g
