-- Nothing ahead: every base predicts 0, and the first middle ends the search.
use Rattle.std.proofs.Common.{◌≡◌, ℕ, suc, ◌+◌, true, false, List, [], ◌∷◌, ℤ, pos, ◌+ℤ◌, ◌*ℤ◌, Option, sym, refl, ap, subst, arith}
use lib.Signed.{lt_z}
use Rattle.std.specs.Int.{saturate_to_bits}
use Rattle.std.proofs.lemmas.Int.{ints}
use Rattle.logexp.specs.LogExp.{computing}
use Rattle.model.specs.Meaning.{Meaning}
use Rattle.tables.specs.Depths.{ac_table}
use Rattle.flat.specs.Flat.{code_of, log_q_of, ac_log}
use Rattle.flat.specs.declared.subtype.Subtype.{Subtype}
use Rattle.flat.specs.declared.subtype.Subtype.TheVariants.{I, P, B0, B1}
use Rattle.aim.specs.Totals.{rate_total}
use Rattle.search.specs.Predict.{with_share, forecast}
use Rattle.search.specs.Hunt.{hunt, middle}
use Rattle.calls.specs.declared.call.Call.TheVariants.{Choose}
use Rattle.calls.specs.declared.answer.Decision.{Decision}
use Rattle.calls.specs.declared.answer.Answer.TheVariants.{Chosen}
use Rattle.controller.specs.Choosing.{ahead, total, bottom, top, found_for, decision}
use Rattle.controller.specs.Performing.{entries_at, answer_to}
use Rattle.figures.specs.Worked.{worked_core}
use Rattle.figures.specs.Figures.{NothingAhead}

itself : (t : ℤ) → lt_z t t ≡ false
itself t = grind (arith, ints)

-- a search whose first middle predicts the total
once : (p : ℤ → ℤ) (t : ℤ) (fuel : ℕ) (lo hi : ℤ) (n : ℕ) → lt_z lo hi ≡ true → p (middle lo hi) ≡ t
    → (hunt p t (suc fuel) lo hi n).tries ≡ n + 1
unfolding hunt
once p t fuel lo hi n l e = rw (l, e, itself t) refl

apart : lt_z (bottom (worked_core false)) (top (worked_core false)) ≡ true
unfolding computing ac_table ac_log bottom top
apart = refl

module _ {M : Type 0} (meaning : Meaning M) (m : M) where
  none : (k : Subtype) (b : ℤ) → with_share meaning m k 0 b (pos 0) ≡ pos 0
  unfolding with_share
  none k b =
      let z : saturate_to_bits 63 (pos 0 *ℤ pos (meaning.count m (code_of k) (log_q_of k b))) ≡ pos 0 = ap pos (omega arith) in
      ap (λ (x : ℤ). saturate_to_bits 63 (pos 0 +ℤ x)) z

  silent : (b : ℤ) → forecast meaning m (0 ∷ 0 ∷ 0 ∷ 0 ∷ 0 ∷ []) b ≡ pos 0
  unfolding forecast
  silent b = rw (none I b, none P b, none B0 b, none B1 b) refl

total_is : total (worked_core false) (ahead (worked_core false) []) ≡ pos 0
unfolding total rate_total
total_is = refl

module _ {M : Type 0} (meaning : Meaning M) (m : M) (k : Subtype) (previous : Option ℤ) (mean : ℤ) where
  abbrev pub alone : Decision
  alone = decision meaning (worked_core false) m (ahead (worked_core false) []) k previous mean

  pub alone_total : alone.total ≡ pos 0
  unfolding decision
  alone_total = total_is

  pub alone_tries : alone.tries ≡ 1
  unfolding decision found_for
  alone_tries =
      subst (λ (t : ℤ). (hunt (forecast meaning m (0 ∷ 0 ∷ 0 ∷ 0 ∷ 0 ∷ [])) t 60 (bottom (worked_core false)) (top (worked_core false)) 0).tries ≡ 1) (sym total_is)
      (once (forecast meaning m (0 ∷ 0 ∷ 0 ∷ 0 ∷ 0 ∷ [])) (pos 0) 59 (bottom (worked_core false)) (top (worked_core false)) 0 apart
      (silent meaning m (middle (bottom (worked_core false)) (top (worked_core false)))))

module _ {M O : Type 0} (meaning : Meaning M) (entries : O → List ℕ) (outlooks : List O) (m : M) where
  told : (k : Subtype) (i : ℕ) (previous : Option ℤ) (mean : ℤ)
      → answer_to meaning entries outlooks (worked_core false) m (Choose (code_of k) i previous mean)
      ≡ Chosen 1 (decision meaning (worked_core false) m (ahead (worked_core false) (entries_at entries outlooks i)) k previous mean)
  told I i previous mean = refl
  told P i previous mean = refl
  told B0 i previous mean = refl
  told B1 i previous mean = refl

  pub nothing_ahead : NothingAhead meaning entries outlooks m
  nothing_ahead k i previous mean e = (
    alone meaning m k previous mean,
    subst (λ (xs : List ℕ). answer_to meaning entries outlooks (worked_core false) m (Choose (code_of k) i previous mean) ≡ Chosen 1 (decision meaning (worked_core false) m (ahead (worked_core false) xs) k previous mean)) e (told k i previous mean),
    alone_total meaning m k previous mean,
    alone_tries meaning m k previous mean,
  )
