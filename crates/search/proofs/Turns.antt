-- What a turn of the search keeps, and what it finds.
use Rattle.std.proofs.Common.{◌≡◌, ℕ, suc, ◌+◌, ◌-◌, ◌*◌, ◌^◌, ◌<◌, ◌≤◌, ℤ, pos, ◌+ℤ◌, ◌-ℤ◌, ◌≤ℤ◌, ◌<ℤ◌, sym, ◌∙◌, subst, ⊎_elim, arith, w64, SFits, to_z, of_z}
use native.Mathlib.Nat.{pow-succ'}
use Rattle.std.proofs.lemmas.Bool.{cases_lt}
use Rattle.std.proofs.lemmas.Int.{ints, to_z-of_z}
use Rattle.search.specs.declared.ends.Ends.{Ends}
use Rattle.search.specs.declared.found.Found.{Found}
use Rattle.search.specs.declared.span.Span.{Span}
use Rattle.search.specs.Hunt.{hunt, middle, Hits}
use Rattle.search.proofs.Hunting.{half_is, halved, hunt_more, hunt_less, hunt_same, hunt_end, found_hits, found_few}

-- what is passed on as bits is the number itself
pub told_at : (f : ℤ → ℤ) (r x : ℤ) → SFits w64 x → r ≡ f (to_z w64 (of_z w64 x)) → r ≡ f x
told_at f r x s e = rw (to_z-of_z w64 x s) at e

-- a turn of the search that finds r: each try halves the span, and the tries that are left find r
pub record Hunting (p : ℤ → ℤ) (total : ℤ) (r : Found) (lo hi : ℤ) (tries : ℕ) : Type 0 where
  pub few : tries ≤ 60
  pub width : (hi -ℤ lo +ℤ pos 1) <ℤ pos (2 ^ (61 - tries))
  pub same : hunt p total (60 - tries) lo hi tries ≡ r

module _ (p : ℤ → ℤ) (total : ℤ) (r : Found) (lo hi : ℤ) (tries : ℕ) (h : Hunting p total r lo hi tries) where
  pub ended : hi ≤ℤ lo → record { base = middle lo hi; tries = tries } ≡ r
  ended o = sym (hunt_end p total (60 - tries) lo hi tries o) ∙ h.same

  module _ (o : lo <ℤ hi) where
    -- there are tries left where the ends are still apart
    pub left : tries < 60
    left =
        ⊎_elim (λ (q : tries < 60). q)
        (λ (q : 60 ≤ tries). let z : 61 - tries ≡ 1 = omega (arith, h.few) in let w : (hi -ℤ lo +ℤ pos 1) <ℤ pos (2 ^ 1) = subst (λ (x : ℕ). (hi -ℤ lo +ℤ pos 1) <ℤ pos (2 ^ x)) z h.width in absurd (omega (arith, ints)))
        (cases_lt tries 60)

    power : 2 ^ (61 - tries) ≡ 2 * 2 ^ (61 - (tries + 1))
    power = let q = left in let e : 61 - tries ≡ suc (61 - (tries + 1)) = omega arith in rw e (pow-succ' 2 (61 - (tries + 1)))

    fuel : 60 - tries ≡ suc (60 - (tries + 1))
    fuel = let q = left in omega arith

    again : hunt p total (suc (60 - (tries + 1))) lo hi tries ≡ r
    again = rw fuel at h.same

    pub went_up : total <ℤ p (middle lo hi) → Hunting p total r (middle lo hi +ℤ pos 1) hi (tries + 1)
    went_up m =
        let q = left in
        let v = half_is (lo +ℤ hi) in
        record {
          few = omega arith;
          width = halved (2 ^ (61 - (tries + 1))) (2 ^ (61 - tries)) (hi -ℤ lo +ℤ pos 1) _ power (omega (arith, ints, v.0, v.1)) h.width;
          same = sym (hunt_more p total (60 - (tries + 1)) lo hi tries o m) ∙ again;
        }

    pub went_down : p (middle lo hi) <ℤ total → Hunting p total r lo (middle lo hi -ℤ pos 1) (tries + 1)
    went_down m =
        let q = left in
        let v = half_is (lo +ℤ hi) in
        record {
          few = omega arith;
          width = halved (2 ^ (61 - (tries + 1))) (2 ^ (61 - tries)) (hi -ℤ lo +ℤ pos 1) _ power (omega (arith, ints, v.0, v.1)) h.width;
          same = sym (hunt_less p total (60 - (tries + 1)) lo hi tries o m) ∙ again;
        }

    pub met : p (middle lo hi) ≡ total → record { base = middle lo hi; tries = tries + 1 } ≡ r
    met m = sym (hunt_same p total (60 - (tries + 1)) lo hi tries o m) ∙ again

-- the numbers of a span in place of the steps that they come from
pub hunting_at : {p : ℤ → ℤ} {total : ℤ} {r : Found} {lo hi : ℤ} {tries : ℕ} (s : Span) → s.lo ≡ lo → s.hi ≡ hi → s.tries ≡ tries
    → Hunting p total r lo hi tries → Hunting p total r s.lo s.hi s.tries
hunting_at s a b c h = rw (a, b, c) h

-- the contract, from the exact result
pub record Told (p : ℤ → ℤ) (total : ℤ) (ends : Ends) (r : Found) : Type 0 where
  pub exact : r ≡ hunt p total 60 ends.bottom ends.top 0
  pub few : r.tries ≤ 60
  pub hits : Hits p total ends.bottom ends.top r.base

pub told_from : (p : ℤ → ℤ) (total x b : ℤ) (ends : Ends) (k : ℕ) → SFits w64 total → SFits w64 x → x ≡ b
    → record { base = b; tries = k } ≡ hunt p (to_z w64 (of_z w64 total)) 60 ends.bottom ends.top 0
    → Told p total ends (record { base = to_z w64 (of_z w64 x); tries = k })
told_from p total x b ends k f g i e =
    let z = to_z-of_z w64 x g ∙ i in
    let h = rw (to_z-of_z w64 total f) at e in
    rw z (record {
      exact = h;
      few = found_few p total ends.bottom ends.top (record { base = b; tries = k }) h;
      hits = found_hits p total ends.bottom ends.top ends.low ends.high ends.order (record { base = b; tries = k }) h;
    })
