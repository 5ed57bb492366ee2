-- The sums of a charge fit, and what always holds of a core holds after a report and a show.
use Rattle.std.proofs.Common.{◌≡◌, ℕ, zero, suc, ◌+◌, ◌*◌, ◌^◌, ◌<◌, ◌≤◌, Bool, true, false, cond, eqb, List, [], ◌∷◌, get_or, set, ℤ, pos, ◌+ℤ◌, neg_ℤ, ◌≤ℤ◌, None, arith, w64, SFits, to_z, of_z}
use Rattle.std.specs.Int.{saturate_to_bits}
use Rattle.std.proofs.lemmas.Int.{ints, clamps, to_z-of_z}
use Rattle.flat.specs.Flat.{code_of}
use Rattle.flat.specs.declared.subtype.Subtype.{Subtype}
use Rattle.calls.specs.Numbers.{sef_bits}
use Rattle.controller.specs.declared.state.Reservoir.{Reservoir}
use Rattle.controller.specs.declared.state.Core.{Core}
use Rattle.controller.specs.Soundness.{Level, Sound}
use Rattle.controller.specs.Charging.{is_dropped, settled, charged, surplus_of, reported_core, shown_core}

-- a gain is never negative
pub gain_low : (shown : Bool) (c : ℤ) → pos 0 ≤ℤ c → pos 0 ≤ℤ cond shown c (pos 0)
gain_low true c h = h
gain_low false c h = omega (arith, ints)

-- a charge is never more than the bits
pub charge_most : (b : Bool) (bits : ℕ) → cond b 0 bits ≤ bits
charge_most true bits = omega arith
charge_most false bits = omega arith

-- at most one more
pub one_most : (b : Bool) (m n : ℕ) → m ≤ n → m + cond b 0 1 ≤ n + 1
one_most true m n h = omega arith
one_most false m n h = omega arith

-- one count that rises by one
pub set_few : (xs : List ℕ) (i n : ℕ) → ((k : ℕ) → get_or xs k 0 ≤ n) → (k : ℕ) → get_or (set xs i (get_or xs i 0 + 1)) k 0 ≤ n + 1
set_few [] zero n h k = omega arith
set_few [] (suc i) n h k = omega arith
set_few (x ∷ xs) zero n h zero = omega (arith, h 0)
set_few (x ∷ xs) zero n h (suc k) = omega (arith, h (suc k))
set_few (x ∷ xs) (suc i) n h zero = omega (arith, h 0)
set_few (x ∷ xs) (suc i) n h (suc k) = set_few xs i n (λ j. h (suc j)) k

-- the reservoir after a charge: its two facts that change
settled_full : (r : Reservoir) (n : ℕ) (shown : Bool) → (settled r n shown).fullness ≤ℤ r.limit
settled_full r n shown = omega (arith, ints, clamps)

settled_deep : (r : Reservoir) (n a : ℕ) (shown : Bool) → n < 2 ^ 32 → pos 24 ≤ℤ r.credit → r.credit ≤ℤ r.limit → neg_ℤ (pos (2 ^ 32 * a)) ≤ℤ r.fullness
    → neg_ℤ (pos (2 ^ 32 * (a + 1))) ≤ℤ (settled r n shown).fullness
settled_deep r n a shown small c l d = let g = gain_low shown r.credit (omega (arith, ints)) in omega (arith, ints, clamps)

pub level_of : (s : Core) → Sound s → Level s.reservoir
level_of s h = record {
  credit_least = h.credit_least;
  credit_most = h.credit_most;
  limit_most = h.limit_most;
  full = h.full;
  deep = omega (arith, ints, h.deep, h.few);
}

pub reported_sound : (s : Core) (k : Subtype) (p : ℤ) (bits : ℕ) (shown droppable : Bool) → Sound s → s.accepted < 2 ^ 30 → bits < 2 ^ 32 → Sound (reported_core s k p bits shown droppable)
reported_sound s k p bits shown droppable h few small =
    let m = charge_most (is_dropped s bits droppable) bits in
    record {
      credit_least = h.credit_least;
      credit_most = h.credit_most;
      limit_is = h.limit_is;
      limit_most = h.limit_most;
      target_is = h.target_is;
      full = settled_full s.reservoir (charged s bits droppable) shown;
      deep = settled_deep s.reservoir (charged s bits droppable) s.accepted shown (omega arith) h.credit_least h.credit_most h.deep;
      few = omega arith;
      coded_few = one_most (eqb bits 0) s.coded s.accepted h.coded_few;
      reports_few = set_few s.reports (code_of k) s.accepted h.reports_few;
      ordered = h.ordered;
    }

pub shown_sound : (s : Core) → Sound s → s.accepted < 2 ^ 30 → Sound (shown_core s)
shown_sound s h few = record {
  credit_least = h.credit_least;
  credit_most = h.credit_most;
  limit_is = h.limit_is;
  limit_most = h.limit_most;
  target_is = h.target_is;
  full = settled_full s.reservoir sef_bits true;
  deep = settled_deep s.reservoir sef_bits s.accepted true (omega arith) h.credit_least h.credit_most h.deep;
  few = omega arith;
  coded_few = omega (arith, h.coded_few);
  reports_few = λ k. omega (arith, h.reports_few k);
  ordered = h.ordered;
}

-- the steps of a report, one after another, through their bits
module _ (s : Core) (k : Subtype) (p : ℤ) (bits : ℕ) (shown droppable : Bool) where
  pub reported_is : (d : Bool) (ch one code : ℕ) (r : Reservoir) (x bias : ℤ) → SFits w64 p → SFits w64 s.rate_bias → SFits w64 x → SFits w64 bias
      → d ≡ is_dropped s bits droppable → ch ≡ cond d 0 bits → r ≡ settled s.reservoir ch shown
      → x ≡ surplus_of (to_z w64 (of_z w64 p)) bits ch → bias ≡ saturate_to_bits 63 (to_z w64 (of_z w64 s.rate_bias) +ℤ to_z w64 (of_z w64 x))
      → one ≡ cond (eqb bits 0) 0 1 → code ≡ code_of k
      → ◌≡◌ {A = Core} (record {
        profile = s.profile;
        reservoir = r;
        rate_bias = to_z w64 (of_z w64 bias);
        accepted = s.accepted + 1;
        coded = s.coded + one;
        reports = set s.reports code (get_or s.reports code 0 + 1);
        choices = s.choices;
        out = None;
      }) (reported_core s k p bits shown droppable)
  reported_is d ch one code r x bias fp fs fx fb ed ech er ex eb eo ec =
      let zp = to_z-of_z w64 p fp in
      let zs = to_z-of_z w64 s.rate_bias fs in
      let zx = to_z-of_z w64 x fx in
      let zb = to_z-of_z w64 bias fb in
      let c1 : ch ≡ charged s bits droppable = rw ed at ech in
      let x1 : x ≡ surplus_of p bits (charged s bits droppable) = rw (zp, c1) at ex in
      let b1 : bias ≡ saturate_to_bits 63 (s.rate_bias +ℤ surplus_of p bits (charged s bits droppable)) = rw (zs, zx, x1) at eb in
      rw (zb, b1, er, c1, eo, ec)
