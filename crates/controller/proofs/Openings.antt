-- What always holds of a core holds of a fresh one.
use Rattle.std.proofs.Common.{◌≡◌, ℕ, zero, suc, ◌<◌, ◌≤◌, true, [], ◌∷◌, get_or, ℤ, pos, negsuc, ◌+ℤ◌, ◌*ℤ◌, ◌≤ℤ◌, Some, None, Option, le-mul_of_pos_right, arith}
use lib.Signed.{shr_z}
use Rattle.std.proofs.lemmas.Int.{ints}
use Rattle.model.specs.declared.settings.Accepted.{Accepted}
use Rattle.model.specs.Opening.{Sound as SoundFigures}
use Rattle.model.specs.Tests.{lawful_highest}
use Rattle.aim.specs.Bounds.{highest_of}
use Rattle.controller.specs.declared.state.Core.{Core}
use Rattle.controller.specs.declared.state.Profile.{Profile}
use Rattle.controller.specs.declared.state.Reservoir.{Reservoir}
use Rattle.controller.specs.Opening.{profile_of, reservoir_of, fresh_core}
use Rattle.controller.specs.Soundness.{Sound}

-- half of a number and one, rounded down
half_is : (z : ℤ) → pos 1 ≤ℤ z → (pos 0 ≤ℤ shr_z (z +ℤ pos 1) 2) × (shr_z (z +ℤ pos 1) 2 ≤ℤ z)
half_is (pos a) h = (omega (arith, ints), omega (arith, ints))
half_is (negsuc a) h = absurd (omega (arith, ints))

-- some credits are no less than one
grows : (c : ℤ) (d : ℕ) → pos 0 ≤ℤ c → 0 < d → c ≤ℤ (c *ℤ pos d)
grows (pos n) d h l = let k = le-mul_of_pos_right n l in omega (arith, ints, k)
grows (negsuc n) d h l = absurd (omega (arith, ints))

none_few : (k : ℕ) → get_or (0 ∷ 0 ∷ 0 ∷ 0 ∷ []) k 0 ≤ 0
none_few zero = omega arith
none_few (suc zero) = omega arith
none_few (suc (suc zero)) = omega arith
none_few (suc (suc (suc zero))) = omega arith
none_few (suc (suc (suc (suc k)))) = omega arith

in_order : (low : ℕ) (high : Option ℕ) → low < 256 → lawful_highest low high ≡ true → low ≤ highest_of high
in_order low None l h = omega arith
in_order low (Some i) l h = grind arith

pub fresh_sound : (a : Accepted) → a.lowest < 256 → SoundFigures a → lawful_highest a.lowest a.highest ≡ true → Sound (fresh_core a)
fresh_sound a l h o =
    let g : a.credit ≤ℤ a.limit = rw h.limit_is (grows a.credit a.delay (omega (arith, ints, h.credit_least)) (omega (arith, h.delay_least))) in
    let t = half_is a.limit (omega (arith, ints, h.credit_least, g)) in
    let e = h.target_is in
    record {
      credit_least = h.credit_least;
      credit_most = g;
      limit_is = h.limit_is;
      limit_most = h.limit_most;
      target_is = h.target_is;
      full = rw e t.1;
      deep = rw e (omega (arith, ints, t.0));
      few = omega arith;
      coded_few = omega arith;
      reports_few = none_few;
      ordered = in_order a.lowest a.highest l o;
    }

-- the parts of a fresh core
pub fresh_is : (a : Accepted) (p : Profile) (r : Reservoir) → p ≡ profile_of a → r ≡ reservoir_of a
    → ◌≡◌ {A = Core} (record {
      profile = p;
      reservoir = r;
      rate_bias = pos 0;
      accepted = 0;
      coded = 0;
      reports = 0 ∷ 0 ∷ 0 ∷ 0 ∷ [];
      choices = 0;
      out = None;
    }) (fresh_core a)
fresh_is a p r ep er = rw (ep, er)
