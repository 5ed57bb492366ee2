-- What holds of a core at its opening.
use Rattle.std.proofs.Common.{◌≡◌, ℕ, ◌*◌, ◌^◌, ◌<◌, ◌≤◌, Bool, true, false, leb, ℤ, pos, neg_ℤ, ◌≤ℤ◌, ◌<ℤ◌, Ok, Err, Result, ap, subst, arith}
use Rattle.std.proofs.lemmas.Int.{ints}
use Rattle.tables.specs.declared.depth.Depth.{Depth}
use Rattle.quantize.specs.declared.sampling.ChromaSampling.{ChromaSampling}
use Rattle.flat.specs.Flat.{LogsOrdered}
use Rattle.aim.specs.Bounds.{highest_of}
use Rattle.model.specs.declared.settings.Settings.{Settings}
use Rattle.model.specs.declared.refusal.Refusal.{Refusal}
use Rattle.model.specs.declared.refusal.Refusal.TheVariants.{Limit}
use Rattle.model.specs.Opening.{credit_of, units_of, limit_of, accepted_of}
use Rattle.model.specs.Questions.{answered, and_then, typed, accepted}
use Rattle.controller.specs.declared.state.Core.{Core}
use Rattle.controller.specs.Opening.{fresh_core, opened_from, opened}
use Rattle.controller.specs.Choosing.{bottom, top}
use Rattle.run.proofs.Lawful.{Opened}

-- no call has been accepted, and the highest index is that of the settings
pub record Fresh (settings : Settings) (s : Core) : Type 0 where
  pub accepted : s.accepted ≡ 0
  pub choices : s.choices ≡ 0
  pub highest : s.profile.highest ≡ settings.highest

fresh_if : (x : Settings) (t : Result (Depth × ChromaSampling) Refusal) (b : Bool) (s : Core)
    → Ok s ≡ opened_from (and_then t (λ p. and_then (answered b Limit) (λ _. Ok (accepted_of x p.0 p.1 (credit_of x) (units_of x)))))
    → Fresh x s
fresh_if x (Ok p) true s e =
    let q : s ≡ fresh_core (accepted_of x p.0 p.1 (credit_of x) (units_of x)) = cc in
    record { accepted = ap (λ (t : Core). t.accepted) q; choices = ap (λ (t : Core). t.choices) q; highest = ap (λ (t : Core). t.profile.highest) q }
fresh_if x (Ok p) false s e = absurd (let z : ◌≡◌ {A = ℕ} 0 1 = cc in omega arith)
fresh_if x (Err f) b s e = absurd (let z : ◌≡◌ {A = ℕ} 0 1 = cc in omega arith)

pub fresh : (x : Settings) (s : Core) → Ok s ≡ opened x → Fresh x s
fresh x s e = fresh_if x (typed x) (leb (limit_of x) (2 ^ 35)) s e

held_at_first : (n : ℕ) (f c : ℤ) → n ≡ 0 → neg_ℤ (pos (2 ^ 32 * n)) ≤ℤ f → pos 24 ≤ℤ c → neg_ℤ c ≤ℤ f
held_at_first n f c e d k =
    let z : neg_ℤ (pos (2 ^ 32 * 0)) ≤ℤ f = subst (λ (i : ℕ). neg_ℤ (pos (2 ^ 32 * i)) ≤ℤ f) e d in
    omega (arith, ints)

module _ (logs : LogsOrdered) (s : Core) (order : s.profile.lowest ≤ highest_of s.profile.highest) (last : highest_of s.profile.highest < 256) where
  low : neg_ℤ (pos (2 ^ 60)) <ℤ bottom s
  unfolding bottom
  low = ((logs s.profile.depth).0.near s.profile.lowest (omega arith)).least

  high : top s <ℤ pos (2 ^ 60)
  unfolding top
  high = ((logs s.profile.depth).0.near (highest_of s.profile.highest) last).most

  rises : bottom s ≤ℤ top s
  unfolding bottom top
  rises = (logs s.profile.depth).0.rises s.profile.lowest (highest_of s.profile.highest) order last

  pub opened_facts : pos 24 ≤ℤ s.reservoir.credit → s.reservoir.credit ≤ℤ s.reservoir.limit → s.reservoir.fullness ≤ℤ s.reservoir.limit
      → neg_ℤ (pos (2 ^ 32 * s.accepted)) ≤ℤ s.reservoir.fullness → s.accepted ≡ 0 → s.choices ≡ 0 → Opened s
  opened_facts credit limit full deep accepted choices = record {
    credit = credit;
    limit = limit;
    full = full;
    held = held_at_first s.accepted s.reservoir.fullness s.reservoir.credit accepted deep credit;
    none = choices;
    low = low;
    high = high;
    order = rises;
  }
