-- What one call does to the reservoir and to the count of choices.
use Rattle.std.proofs.Common.{◌≡◌, ℕ, ◌+◌, ◌%◌, ◌^◌, Bool, true, false, cond, ◌||◌, eqb, List, [], ◌++◌, ℤ, pos, ◌+ℤ◌, neg_ℤ, ◌≤ℤ◌, Some, None, Option, sym, refl, ap, ◌∙◌, subst, arith}
use lib.Signed.{lt_z}
use Rattle.std.proofs.lemmas.Int.{ints, clamps}
use Rattle.model.specs.Meaning.{Meaning}
use Rattle.flat.specs.Flat.{subtype_of_code}
use Rattle.flat.specs.declared.subtype.Subtype.{Subtype}
use Rattle.outlook.specs.declared.counts.Counts.{Counts}
use Rattle.calls.specs.declared.call.Call.{Call}
use Rattle.calls.specs.declared.call.Call.TheVariants.{Choose, Trial, Report, Withdraw, Show, Status}
use Rattle.calls.specs.declared.answer.Answer.{Answer}
use Rattle.calls.specs.declared.answer.Decision.{Decision}
use Rattle.calls.specs.declared.answer.Answer.TheVariants.{Chosen}
use Rattle.controller.specs.declared.state.Core.{Core}
use Rattle.controller.specs.declared.state.Frame.{Frame}
use Rattle.controller.specs.After.{any_out, frame_of, has_room, next_number}
use Rattle.controller.specs.Charging.{charged}
use Rattle.controller.specs.Choosing.{choose_on, decision, ahead}
use Rattle.controller.specs.Reporting.{report_on, trial_of, trial_on, show_on, withdrawn_on, reports_of}
use Rattle.controller.specs.Performing.{entries_at, of_choose, of_trial, of_report, of_show, answer_to, core_after}
use Rattle.run.specs.Ledger.{Entry, entry, report_entry, show_entry}
use Rattle.run.specs.Laws.{if_accepted, Droppable, choice}
use Rattle.run.proofs.Flow.{flow, flow_append, Above, above_end}

-- from one core to another through the entries of a ledger and so many accepted choices
pub record Goes (s t : Core) (es : List Entry) (n : ℕ) : Type 0 where
  pub fullness : t.reservoir.fullness ≡ flow s.reservoir.limit s.reservoir.fullness es
  pub limit : t.reservoir.limit ≡ s.reservoir.limit
  pub credit : t.reservoir.credit ≡ s.reservoir.credit
  pub profile : t.profile ≡ s.profile
  pub choices : t.choices % 2 ^ 64 ≡ (s.choices + n) % 2 ^ 64

same : (n : ℕ) → n % 2 ^ 64 ≡ (n + 0) % 2 ^ 64
same n = omega arith

again : (n : ℕ) → (n + 1) % 2 ^ 64 % 2 ^ 64 ≡ (n + 1) % 2 ^ 64
again n = omega arith

further : (u t s n k : ℕ) → u % 2 ^ 64 ≡ (t + k) % 2 ^ 64 → t % 2 ^ 64 ≡ (s + n) % 2 ^ 64 → u % 2 ^ 64 ≡ (s + (n + k)) % 2 ^ 64
further u t s n k p q = omega arith

-- reservoir, profile and choices stay
kept : (s t : Core) → t.reservoir ≡ s.reservoir → t.profile ≡ s.profile → t.choices ≡ s.choices → Goes s t [] 0
kept s t r p c = record {
  fullness = ap (λ x. x.fullness) r;
  limit = ap (λ x. x.limit) r;
  credit = ap (λ x. x.credit) r;
  profile = p;
  choices = ap (λ (n : ℕ). n % 2 ^ 64) c ∙ same s.choices;
}

-- two steps, one after the other
pub joins : (s t u : Core) (xs ys : List Entry) (n k : ℕ) → Goes s t xs n → Goes t u ys k → Goes s u (xs ++ ys) (n + k)
joins s t u xs ys n k g h = record {
  fullness = subst (λ (f : ℤ). u.reservoir.fullness ≡ flow s.reservoir.limit f ys) g.fullness
      (subst (λ (l : ℤ). u.reservoir.fullness ≡ flow l t.reservoir.fullness ys) g.limit h.fullness)
      ∙ sym (flow_append s.reservoir.limit s.reservoir.fullness xs ys);
  limit = h.limit ∙ g.limit;
  credit = h.credit ∙ g.credit;
  profile = h.profile ∙ g.profile;
  choices = further u.choices t.choices s.choices n k h.choices g.choices;
}

-- ---- charges

at_most : (e t : Bool) (x : ℤ) (bits : ℕ) → pos 0 ≤ℤ x → (t ≡ false → pos bits ≤ℤ x) → pos (cond (e || t) 0 bits) ≤ℤ x
at_most true t x bits h k = h
at_most false true x bits h k = h
at_most false false x bits h k = k refl

not_lt : (a b : ℤ) → lt_z a b ≡ false → b ≤ℤ a
not_lt a b e = grind (arith, ints)

gain_low : (shown : Bool) (c : ℤ) → pos 0 ≤ℤ c → pos 0 ≤ℤ cond shown c (pos 0)
gain_low true c h = h
gain_low false c h = omega (arith, ints)

-- what holds as long as every accepted report is droppable
pub record Held (s : Core) : Type 0 where
  pub dropping : s.profile.dropping ≡ true
  pub credit : pos 24 ≤ℤ s.reservoir.credit
  pub limit : s.reservoir.credit ≤ℤ s.reservoir.limit
  pub fullness : neg_ℤ s.reservoir.credit ≤ℤ s.reservoir.fullness

-- a charge is covered by fullness and one credit
covered : (s : Core) (bits : ℕ) (droppable : Bool) → s.profile.dropping ≡ true → droppable ≡ true → pos 0 ≤ℤ (s.reservoir.fullness +ℤ s.reservoir.credit)
    → pos (charged s bits droppable) ≤ℤ (s.reservoir.fullness +ℤ s.reservoir.credit)
covered s bits droppable d k h =
    rw (d, k) (at_most (eqb bits 0) (lt_z (s.reservoir.fullness +ℤ s.reservoir.credit) (pos bits)) (s.reservoir.fullness +ℤ s.reservoir.credit) bits h (λ e. not_lt (s.reservoir.fullness +ℤ s.reservoir.credit) (pos bits) e))

abbrev pub Stays : Core → List Entry → Type 0
Stays s es = Above s.reservoir.limit s.reservoir.credit s.reservoir.fullness es

module _ {M : Type 0} (meaning : Meaning M) (s : Core) (m : M) where
  goes_choose : (n : ℕ) (b : Bool) (o : Option Subtype) (a : Counts) (previous : Option ℤ) (mean : ℤ)
      → Goes s (choose_on meaning s m b o a previous mean).core [] (choice (of_choose n (choose_on meaning s m b o a previous mean).answer))
  goes_choose n true o a previous mean = kept s s refl refl refl
  goes_choose n false None a previous mean = kept s s refl refl refl
  goes_choose n false (Some k) a previous mean = record { fullness = refl; limit = refl; credit = refl; profile = refl; choices = again s.choices }

  goes_trial_of : (f : Frame) (b none : Bool) (bits : ℕ) → Goes s (trial_of meaning s m f b none bits).core [] (choice (of_trial (trial_of meaning s m f b none bits).answer))
  goes_trial_of f false none bits = kept s s refl refl refl
  goes_trial_of f true true bits = kept s s refl refl refl
  goes_trial_of f true false bits = kept s _ refl refl refl

  goes_trial : (o : Option Frame) (bits : ℕ) → Goes s (trial_on meaning s m o bits).core [] (choice (of_trial (trial_on meaning s m o bits).answer))
  goes_trial None bits = kept s s refl refl refl
  goes_trial (Some f) bits = goes_trial_of f (eqb (reports_of s f.subtype) 0) (eqb bits 0) bits

  goes_report : (o : Option Frame) (b : Bool) (bits : ℕ) (shown droppable : Bool)
      → Goes s (report_on meaning s m o b bits shown droppable).core
      (report_entry s.reservoir.credit bits shown (of_report (report_on meaning s m o b bits shown droppable).answer))
      (choice (of_report (report_on meaning s m o b bits shown droppable).answer))
  goes_report None b bits shown droppable = kept s s refl refl refl
  goes_report (Some f) false bits shown droppable = kept s s refl refl refl
  goes_report (Some f) true bits shown droppable = record { fullness = refl; limit = refl; credit = refl; profile = refl; choices = same s.choices }

  goes_withdraw : (o : Option Frame) → Goes s (withdrawn_on s o) [] 0
  goes_withdraw None = kept s s refl refl refl
  goes_withdraw (Some f) = kept s _ refl refl refl

  goes_show : (out room : Bool)
      → Goes s (show_on s m out room).core (show_entry s.reservoir.credit (of_show (show_on s m out room).answer)) (choice (of_show (show_on s m out room).answer))
  goes_show true room = kept s s refl refl refl
  goes_show false false = kept s s refl refl refl
  goes_show false true = record { fullness = refl; limit = refl; credit = refl; profile = refl; choices = same s.choices }

  above_report : (o : Option Frame) (b : Bool) (bits : ℕ) (shown droppable : Bool) → Held s
      → if_accepted droppable (of_report (report_on meaning s m o b bits shown droppable).answer)
      → Stays s (report_entry s.reservoir.credit bits shown (of_report (report_on meaning s m o b bits shown droppable).answer))
  above_report None b bits shown droppable h k = h.fullness
  above_report (Some f) false bits shown droppable h k = h.fullness
  above_report (Some f) true bits shown droppable h k =
      let c = covered s bits droppable h.dropping k (omega (arith, ints, h.fullness)) in
      let g = gain_low shown s.reservoir.credit (omega (arith, ints, h.credit)) in
      (h.fullness, omega (arith, ints, clamps, h.credit, h.limit))

  above_show : (out room : Bool) → Held s → Stays s (show_entry s.reservoir.credit (of_show (show_on s m out room).answer))
  above_show true room h = h.fullness
  above_show false false h = h.fullness
  above_show false true h = (h.fullness, omega (arith, ints, clamps, h.credit, h.limit, h.fullness))

  -- an accepted choice has the next number, and its figures are those of a decision
  chose : (n t : ℕ) (b : Bool) (o : Option Subtype) (a : Counts) (previous : Option ℤ) (mean : ℤ) (d : Decision)
      → Chosen t d ≡ of_choose n (choose_on meaning s m b o a previous mean).answer
      → (t ≡ n) × ((k : Subtype) × (d ≡ decision meaning s m a k previous mean))
  chose n t true o a previous mean d e = absurd (let z : ◌≡◌ {A = ℕ} 0 1 = cc in omega arith)
  chose n t false None a previous mean d e = absurd (let z : ◌≡◌ {A = ℕ} 0 1 = cc in omega arith)
  chose n t false (Some k) a previous mean d e = ((cc), (k, (cc)))

module _ {M O : Type 0} (meaning : Meaning M) (entries : O → List ℕ) (outlooks : List O) (s : Core) (m : M) where
  abbrev pub answer : Call → Answer
  answer c = answer_to meaning entries outlooks s m c

  pub goes : (c : Call) → Goes s (core_after meaning entries outlooks s m c) (entry s.reservoir.credit c (answer c)) (choice (answer c))
  goes (Choose k i previous mean) =
      goes_choose meaning s m (next_number s) (any_out s.out) (subtype_of_code k) (ahead s (entries_at entries outlooks i)) previous mean
  goes (Trial n bits) = goes_trial meaning s m (frame_of s n) bits
  goes (Report n bits shown droppable) = goes_report meaning s m (frame_of s n) (has_room s) bits shown droppable
  goes (Withdraw n) = goes_withdraw meaning s m (frame_of s n)
  goes Show = goes_show meaning s m (any_out s.out) (has_room s)
  goes Status = kept s s refl refl refl

  pub above : (c : Call) → Held s → Droppable (c, answer c) → Stays s (entry s.reservoir.credit c (answer c))
  above (Choose k i previous mean) h d = h.fullness
  above (Trial n bits) h d = h.fullness
  above (Report n bits shown droppable) h d = above_report meaning s m (frame_of s n) (has_room s) bits shown droppable h d
  above (Withdraw n) h d = h.fullness
  above Show h d = above_show meaning s m (any_out s.out) (has_room s) h
  above Status h d = h.fullness

  -- what a call leaves as it was, while every accepted report is droppable
  pub held : (c : Call) → Held s → Droppable (c, answer c) → Held (core_after meaning entries outlooks s m c)
  held c h d =
      let g = goes c in
      let a = above_end s.reservoir.limit s.reservoir.credit s.reservoir.fullness (entry s.reservoir.credit c (answer c)) (above c h d) in
      record {
        dropping = ap (λ x. x.dropping) g.profile ∙ h.dropping;
        credit = subst (λ (z : ℤ). pos 24 ≤ℤ z) (sym g.credit) h.credit;
        limit = subst (λ (z : ℤ). (core_after meaning entries outlooks s m c).reservoir.credit ≤ℤ z) (sym g.limit)
            (subst (λ (z : ℤ). z ≤ℤ s.reservoir.limit) (sym g.credit) h.limit);
        fullness = subst (λ (z : ℤ). neg_ℤ z ≤ℤ (core_after meaning entries outlooks s m c).reservoir.fullness) (sym g.credit)
            (subst (λ (z : ℤ). neg_ℤ s.reservoir.credit ≤ℤ z) (sym g.fullness) a);
      }

  pub choice_made : (k i : ℕ) (previous : Option ℤ) (mean : ℤ) (t : ℕ) (d : Decision) → Chosen t d ≡ answer (Choose k i previous mean)
      → (t ≡ next_number s) × ((f : Subtype) × (d ≡ decision meaning s m (ahead s (entries_at entries outlooks i)) f previous mean))
  choice_made k i previous mean t d e =
      chose meaning s m (next_number s) t (any_out s.out) (subtype_of_code k) (ahead s (entries_at entries outlooks i)) previous mean d e
