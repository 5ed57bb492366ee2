-- What the filter's numbers are, over plain variables.
use Rattle.std.proofs.Common.{◌≡◌, ℕ, ◌*◌, ◌^◌, true, false, ◌||◌, eqb, ℤ, pos, negsuc, ◌≤ℤ◌, ap, ◌∙◌, arith, w64, SFits, to_z, of_z}
use Rattle.std.specs.Int.{int_min}
use Rattle.std.proofs.lemmas.Int.{ints, to_z-of_z}
use Rattle.logexp.specs.LogExp.{bexp64, blog64}
use Rattle.logexp.specs.Held.{◌⊕◌, ◌⊖◌}
use Rattle.model.specs.Scales.{power, counted, filter_bits, filter_count, scale_of, q24, begun, lengthened, followed, filter_next}
use Rattle.model.specs.declared.lesson.Lesson.{Lesson}
use Rattle.model.specs.declared.filter.Filter.{Filter}

pub counted_is : (z : ℤ) → pos 0 ≤ℤ z → SFits w64 z → pos (counted z) ≡ z
counted_is (pos n) h f = omega (arith, ints)
counted_is (negsuc n) h f = absurd h.le

pub count_by : (f : Filter) (pixels q p a s r : ℤ) → SFits w64 r → pos 0 ≤ℤ r
    → p ≡ power f q → a ≡ f.log_scale ⊕ pixels → s ≡ a ⊖ p → r ≡ bexp64 s
    → to_z w64 (of_z w64 r) ≡ pos (filter_count f pixels q)
unfolding filter_bits
count_by f pixels q p a s r g h e1 e2 e3 e4 =
    let u = to_z-of_z w64 r g in
    let v = counted_is r h g in
    cc

pub scale_by : (pixels p b d s m : ℤ) (n : ℕ) → SFits w64 m
    → b ≡ blog64 (pos n) → d ≡ b ⊖ pixels → s ≡ d ⊕ p → m ≡ int_min s (pos (16 * 2 ^ 57))
    → to_z w64 (of_z w64 m) ≡ scale_of pixels n p
unfolding scale_of
scale_by pixels p b d s m n g e1 e2 e3 e4 =
    let u = to_z-of_z w64 m g in
    cc

pub next_begun : (f r : Filter) (pixels p s : ℤ) (target : ℕ) (l : Lesson) → (l.trial || eqb l.reports 0) ≡ true
    → p ≡ power f l.log_q → s ≡ scale_of pixels l.bits p → r ≡ begun f s → r ≡ filter_next f pixels target l
unfolding filter_next
next_begun f r pixels p s target l b e1 e2 e3 =
    rw b (e3 ∙ ap (begun f) (e2 ∙ ap (scale_of pixels l.bits) e1))

pub next_followed : (f g r : Filter) (pixels p s x : ℤ) (target : ℕ) (l : Lesson) → (l.trial || eqb l.reports 0) ≡ false
    → p ≡ power f l.log_q → s ≡ scale_of pixels l.bits p → x ≡ q24 s → g ≡ lengthened f target l → r ≡ followed g x
    → r ≡ filter_next f pixels target l
unfolding filter_next
next_followed f g r pixels p s x target l b e1 e2 e3 e4 e5 =
    rw b (e5 ∙ ap (λ (h : Filter). followed h x) e4 ∙ ap (followed (lengthened f target l)) (e3 ∙ ap q24 (e2 ∙ ap (scale_of pixels l.bits) e1)))
