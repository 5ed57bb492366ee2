-- The filters' bounds, over whole runs of lessons.
use Rattle.std.proofs.Common.{◌≡◌, ℕ, zero, suc, ◌/◌, ◌<◌, ◌≤◌, Bool, true, false, cond, ◌||◌, eqb, ltb, List, [], ◌∷◌, get_or, set, sym, refl, subst, inl, inr, arith}
use Rattle.std.proofs.lemmas.Bool.{cases_eq}
use Rattle.std.proofs.lemmas.Bool.Decides.{nat_tests}
use Rattle.std.proofs.lemmas.List.{get_or-set_other}
use Rattle.model.specs.Scales.{lengthens, longer, lengthened, filter_next}
use Rattle.model.specs.Curves.{blank, guessed, fresh_filters, curve_next, curve_of, taught}
use Rattle.setup.specs.Opening.{pixels_of, credit_of}
use Rattle.model.specs.Laws.{filter_at, Bounded, AllBounded, lessons, BoundsKept}
use Rattle.model.specs.declared.lesson.Lesson.{Lesson}
use Rattle.model.specs.declared.filter.Filter.{Filter}
use Rattle.model.specs.declared.filter.Guess.{Guess}
use Rattle.model.specs.declared.curve.Curve.{Curve}
use Rattle.setup.specs.declared.settings.Settings.{Settings}
use Rattle.model.proofs.Lessons.{learnt, by_ways}

guessed_least : (n low high : ℕ) (few some many : Guess) → 1 ≤ few.exp → 1 ≤ some.exp → 1 ≤ many.exp → 1 ≤ (guessed n low high few some many).exp
guessed_least n low high few some many a b c =
    elim (ltb n low) as (λ t. 1 ≤ (cond t few (cond (ltb n high) some many)).exp) [
      | true ↦ a
      | false ↦ elim (ltb n high) as (λ t. 1 ≤ (cond t some many).exp) [ true ↦ b | false ↦ c ]
    ]

fresh_bounded : (s : Settings) → AllBounded (curve_of s)
unfolding curve_of fresh_filters
fresh_bounded s zero l = record { exp_least = guessed_least (pixels_of s / credit_of s) 1 4 (record { exp = 48; eighths = 36 }) (record { exp = 61; eighths = 55 }) (record { exp = 77; eighths = 129 }) (omega arith) (omega arith) (omega arith); delay_least = omega arith; delay_most = omega arith }
fresh_bounded s (suc zero) l = record { exp_least = guessed_least (pixels_of s / credit_of s) 2 139 (record { exp = 69; eighths = 32 }) (record { exp = 104; eighths = 84 }) (record { exp = 83; eighths = 19 }) (omega arith) (omega arith) (omega arith); delay_least = omega arith; delay_most = omega arith }
fresh_bounded s (suc (suc zero)) l = record { exp_least = guessed_least (pixels_of s / credit_of s) 2 92 (record { exp = 84; eighths = 30 }) (record { exp = 120; eighths = 68 }) (record { exp = 68; eighths = 4 }) (omega arith) (omega arith) (omega arith); delay_least = omega arith; delay_most = omega arith }
fresh_bounded s (suc (suc (suc zero))) l = record { exp_least = guessed_least (pixels_of s / credit_of s) 2 126 (record { exp = 87; eighths = 27 }) (record { exp = 139; eighths = 84 }) (record { exp = 61; eighths = 1 }) (omega arith) (omega arith) (omega arith); delay_least = omega arith; delay_most = omega arith }
fresh_bounded s (suc (suc (suc (suc k)))) l = absurd (omega arith)

-- the bounds go by exponent and delay alone
same_bounds : (target k : ℕ) (f g : Filter) → g.exp ≡ f.exp → g.delay ≡ f.delay → Bounded target k f → Bounded target k g
same_bounds target k f g e d h =
    let a = h.exp_least in
    let b = h.delay_least in
    let c = h.delay_most in
    record { exp_least = omega arith; delay_least = omega arith; delay_most = omega arith }

longer_bounded : (target : ℕ) (l : Lesson) (f : Filter) → lengthens f target l ≡ true → Bounded target l.subtype f → Bounded target l.subtype (longer f)
longer_bounded target l f t h =
    let a = h.exp_least in
    let b = h.delay_least in
    let z : ltb 0 l.subtype ≡ true = grind (arith, nat_tests) in
    let d : f.delay < target = grind (arith, nat_tests) in
    record { exp_least = a; delay_least = omega arith; delay_most = rw z (omega arith) }

long_bounded : (target : ℕ) (l : Lesson) (f : Filter) → Bounded target l.subtype f → Bounded target l.subtype (lengthened f target l)
long_bounded target l f h = by (lengthens f target l) refl
  where
    by : (b : Bool) → lengthens f target l ≡ b → Bounded target l.subtype (cond b (longer f) f)
    by true e = longer_bounded target l f e h
    by false e = h

either_bounded : (target k : ℕ) (w : Bool) (f g : Filter) → Bounded target k f → Bounded target k g → Bounded target k (cond w f g)
either_bounded target k true f g a b = a
either_bounded target k false f g a b = b

learnt_bounded : (m : Curve) (l : Lesson) → Bounded m.inter_delay_target l.subtype (filter_at m l.subtype)
    → Bounded m.inter_delay_target l.subtype (learnt m l)
unfolding filter_next
learnt_bounded m l h =
    either_bounded m.inter_delay_target l.subtype (l.trial || eqb l.reports 0) _ _
    (same_bounds _ l.subtype (filter_at m l.subtype) _ refl refl h)
    (same_bounds _ l.subtype (lengthened (filter_at m l.subtype) m.inter_delay_target l) _ refl refl (long_bounded _ l (filter_at m l.subtype) h))

-- what stands at k after a write there is what was written, or past the end what was there
at_set : (P : Filter → Type 0) (fs : List Filter) (k : ℕ) (f : Filter) → P f → P (get_or fs k blank) → P (get_or (set fs k f) k blank)
at_set P [] k f a b = b
at_set P (x ∷ fs) zero f a b = a
at_set P (x ∷ fs) (suc k) f a b = at_set P fs k f a b

lesson_bounded : (m : Curve) (l : Lesson) → AllBounded m → AllBounded (curve_next m l)
lesson_bounded m l h = by_ways AllBounded m l h put
  where
    put : AllBounded (taught m l.subtype (learnt m l))
    put j s =
        elim (cases_eq j l.subtype) [
          | inl e ↦
              subst (λ (i : ℕ). Bounded m.inter_delay_target i (get_or (set m.filters l.subtype (learnt m l)) i blank)) (sym e)
              (at_set (Bounded m.inter_delay_target l.subtype) m.filters l.subtype (learnt m l)
              (learnt_bounded m l (h l.subtype (subst (λ (i : ℕ). i < 4) e s))) (h l.subtype (subst (λ (i : ℕ). i < 4) e s)))
          | inr d ↦
              subst (Bounded m.inter_delay_target j) (sym (get_or-set_other m.filters l.subtype j (learnt m l) blank d)) (h j s)
        ]

run_bounded : (m : Curve) (ls : List Lesson) → AllBounded m → AllBounded (lessons m ls)
unfolding lessons
run_bounded m [] h = h
run_bounded m (l ∷ ls) h = run_bounded (curve_next m l) ls (lesson_bounded m l h)

pub bounds_kept : BoundsKept
bounds_kept s ls = run_bounded (curve_of s) ls (fresh_bounded s)
