-- Every history of a controller is lawful.
use Rattle.std.proofs.Common.{◌≡◌, ℕ, ◌+◌, ◌%◌, ◌^◌, ◌≤◌, List, ◌∷◌, ℤ, pos, neg_ℤ, ◌≤ℤ◌, ◌<ℤ◌, Option, sym, refl, ap, ◌∙◌, subst, arith}
use Rattle.model.specs.Meaning.{Meaning}
use Rattle.flat.specs.Flat.{ac_log}
use Rattle.flat.specs.declared.subtype.Subtype.{Subtype}
use Rattle.outlook.specs.Bytes.{front}
use Rattle.outlook.specs.Counting.{tally}
use Rattle.outlook.specs.declared.counts.Counts.{Counts}
use Rattle.search.specs.Predict.{forecast}
use Rattle.search.specs.Hunt.{hunt, Hits, Hunts}
use Rattle.aim.specs.Bounds.{highest_of}
use Rattle.calls.specs.declared.call.Call.{Call}
use Rattle.calls.specs.declared.call.Call.TheVariants.{Choose, Status}
use Rattle.calls.specs.declared.answer.Answer.TheVariants.{Chosen, Told}
use Rattle.calls.specs.declared.answer.Decision.{Decision}
use Rattle.calls.specs.declared.answer.Status.{Status as StatusRecord}
use Rattle.controller.specs.declared.state.Core.{Core}
use Rattle.controller.specs.declared.state.Profile.{Profile}
use Rattle.controller.specs.Choosing.{ahead, total, bottom, top, found_for, decision}
use Rattle.controller.specs.Reporting.{status_of}
use Rattle.controller.specs.Performing.{entries_at}
use Rattle.run.specs.Ledger.{History, Entry, ledger}
use Rattle.run.specs.Answers.{State}
use Rattle.run.specs.Laws.{Fullness, Charges, Numbers, Crossing, Meets, Laws, choices}
use Rattle.run.proofs.Flow.{flow, least, stretch_charges}
use Rattle.run.proofs.Calls.{Stays, choice_made}
use Rattle.run.proofs.Histories.{after_all, history, calls_of, answered, goes_past, above_past}

-- the facts of a core at its opening
pub record Opened (s : Core) : Type 0 where
  pub credit : pos 24 ≤ℤ s.reservoir.credit
  pub limit : s.reservoir.credit ≤ℤ s.reservoir.limit
  pub full : s.reservoir.fullness ≤ℤ s.reservoir.limit
  pub held : neg_ℤ s.reservoir.credit ≤ℤ s.reservoir.fullness
  pub none : s.choices ≡ 0
  pub low : neg_ℤ (pos (2 ^ 60)) <ℤ bottom s
  pub high : top s <ℤ pos (2 ^ 60)
  pub order : bottom s ≤ℤ top s

-- ---- what hangs on the profile alone

same_bottom : (s t : Core) → s.profile ≡ t.profile → bottom s ≡ bottom t
unfolding bottom
same_bottom s t e = ap (λ (p : Profile). ac_log p.lowest p.depth) e

same_top : (s t : Core) → s.profile ≡ t.profile → top s ≡ top t
unfolding top
same_top s t e = ap (λ (p : Profile). ac_log (highest_of p.highest) p.depth) e

same_ahead : (s t : Core) (es : List ℕ) → s.profile ≡ t.profile → ahead s es ≡ ahead t es
same_ahead s t es e = ap (λ (p : Profile). tally (front p.delay es)) e

numbered : (n t s k : ℕ) → n ≡ (t + 1) % 2 ^ 64 → t % 2 ^ 64 ≡ (s + k) % 2 ^ 64 → s ≡ 0 → n ≡ (k + 1) % 2 ^ 64
numbered n t s k p q z = omega arith

module _ {M : Type 0} (meaning : Meaning M) (s : Core) (m : M) (a : Counts) (k : Subtype) (previous : Option ℤ) (mean : ℤ) where
  decided_total : (decision meaning s m a k previous mean).total ≡ total s a
  unfolding decision
  decided_total = refl

  decided_found : (decision meaning s m a k previous mean).found ≡ (hunt (forecast meaning m a.kinds) (total s a) 60 (bottom s) (top s) 0).base
  unfolding decision found_for
  decided_found = refl

  decided_tries : (decision meaning s m a k previous mean).tries ≡ (hunt (forecast meaning m a.kinds) (total s a) 60 (bottom s) (top s) 0).tries
  unfolding decision found_for
  decided_tries = refl

-- the search from the ends of an opened core
hunted : Hunts → (s : Core) → Opened s → (p : ℤ → ℤ) (t bottom' top' : ℤ) → bottom' ≡ bottom s → top' ≡ top s
    → Hits p t (bottom s) (top s) (hunt p t 60 bottom' top' 0).base × ((hunt p t 60 bottom' top' 0).tries ≤ 60)
hunted hunts s o p t bottom' top' e f =
    subst (λ (z : ℤ). Hits p t (bottom s) (top s) (hunt p t 60 z top' 0).base × ((hunt p t 60 z top' 0).tries ≤ 60)) (sym e)
    (subst (λ (z : ℤ). Hits p t (bottom s) (top s) (hunt p t 60 (bottom s) z 0).base × ((hunt p t 60 (bottom s) z 0).tries ≤ 60)) (sym f)
    (hunts p t (bottom s) (top s) o.low o.high o.order))

module _ {M O : Type 0} (meaning : Meaning M) (entries : O → List ℕ) (outlooks : List O) (x : State M) (cs : List Call) where
  abbrev whole : History
  whole = history meaning entries outlooks x cs

  abbrev at : History → State M
  at before = after_all meaning entries outlooks x (calls_of meaning entries outlooks before)

  full_law : Fullness x.core.reservoir whole
  full_law before after t q =
      let a : Told t ≡ Told (status_of (at before).core) = answered meaning entries outlooks x cs before after (Status, Told t) q in
      let b : t ≡ status_of (at before).core = cc in
      let f : t.fullness ≡ flow x.core.reservoir.limit x.core.reservoir.fullness (ledger x.core.reservoir.credit before) =
      ap (λ (y : StatusRecord). y.fullness) b ∙ (goes_past meaning entries outlooks x cs before ((Status, Told t) ∷ after) q).fullness in
      rw f (least x.core.reservoir.limit x.core.reservoir.fullness (ledger x.core.reservoir.credit before))

  charge_law : Opened x.core → Charges x.core.profile.dropping x.core.reservoir whole
  charge_law o d past rest q k before stretch after e =
      stretch_charges x.core.reservoir.limit x.core.reservoir.credit x.core.reservoir.fullness before stretch after o.full
      (subst (λ (es : List Entry). Stays x.core es) e
      (above_past meaning entries outlooks x cs past rest q (record { dropping = d; credit = o.credit; limit = o.limit; fullness = o.held }) k))

  number_law : Opened x.core → Numbers whole
  number_law o before after k i previous mean n d q =
      let a = answered meaning entries outlooks x cs before after (Choose k i previous mean, Chosen n d) q in
      let g = goes_past meaning entries outlooks x cs before ((Choose k i previous mean, Chosen n d) ∷ after) q in
      numbered n (at before).core.choices x.core.choices (choices before)
      (choice_made meaning entries outlooks (at before).core (at before).model k i previous mean n d a).0 g.choices o.none

  -- a decision by the counts of the opened core's delay
  meets : Hunts → Opened x.core → (y : State M) → y.core.profile ≡ x.core.profile → (a : Counts) (k : Subtype) (previous : Option ℤ) (mean : ℤ)
      → Meets meaning x.core y a (decision meaning y.core y.model a k previous mean)
  meets hunts o y e a k previous mean =
      let t = decided_total meaning y.core y.model a k previous mean in
      let h = hunted hunts x.core o (forecast meaning y.model a.kinds) (total y.core a) (bottom y.core) (top y.core) (same_bottom y.core x.core e) (same_top y.core x.core e) in
      record {
        total_is = t;
        few = subst (λ (n : ℕ). n ≤ 60) (sym (decided_tries meaning y.core y.model a k previous mean)) h.1;
        hits = subst (λ (z : ℤ). Hits (forecast meaning y.model a.kinds) z (bottom x.core) (top x.core) (decision meaning y.core y.model a k previous mean).found) (sym t)
            (subst (λ (z : ℤ). Hits (forecast meaning y.model a.kinds) (total y.core a) (bottom x.core) (top x.core) z) (sym (decided_found meaning y.core y.model a k previous mean)) h.0);
      }

  crossing_law : Hunts → Opened x.core → Crossing meaning entries outlooks x whole
  crossing_law hunts o before after k i previous mean n d q =
      let a = answered meaning entries outlooks x cs before after (Choose k i previous mean, Chosen n d) q in
      let g = goes_past meaning entries outlooks x cs before ((Choose k i previous mean, Chosen n d) ∷ after) q in
      let c = (choice_made meaning entries outlooks (at before).core (at before).model k i previous mean n d a).1 in
      subst (λ (f : Decision). Meets meaning x.core (at before) (ahead x.core (entries_at entries outlooks i)) f) (sym c.1)
      (subst (λ (w : Counts). Meets meaning x.core (at before) w (decision meaning (at before).core (at before).model (ahead (at before).core (entries_at entries outlooks i)) c.0 previous mean))
      (same_ahead (at before).core x.core (entries_at entries outlooks i) g.profile)
      (meets hunts o (at before) g.profile (ahead (at before).core (entries_at entries outlooks i)) c.0 previous mean))

  -- all of them
  pub lawful : Hunts → Opened x.core → Laws meaning entries outlooks x whole
  lawful hunts o = record { fullness = full_law; charges = charge_law o; numbers = number_law o; crossing = crossing_law hunts o }
