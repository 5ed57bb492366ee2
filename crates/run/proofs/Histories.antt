-- Histories: their parts, and what they do to a core.
use Rattle.std.proofs.Common.{◌≡◌, ℕ, List, [], ◌∷◌, ◌++◌, map, ℤ, sym, refl, ap, subst, arith}
use Rattle.std.specs.List.{AllByRecursion}
use Rattle.model.specs.Meaning.{Meaning}
use Rattle.calls.specs.declared.call.Call.{Call}
use Rattle.calls.specs.declared.answer.Answer.{Answer}
use Rattle.controller.specs.declared.state.Core.{Core}
use Rattle.controller.specs.Performing.{answer_to}
use Rattle.run.specs.Ledger.{History, entry, ledger}
use Rattle.run.specs.Answers.{State, state_after, state_after_all, answers_to}
use Rattle.run.specs.Laws.{Droppable, choice, choices}
use Rattle.run.specs.Runs.{beside}
use Rattle.run.proofs.Flow.{Above, above_join}
use Rattle.run.proofs.Calls.{Goes, joins, Held, Stays, goes, above, held}

heads : {A : Type 0} (x y : A) (xs ys : List A) → x ∷ xs ≡ y ∷ ys → x ≡ y
heads x y xs ys e = cc

tails : {A : Type 0} (x y : A) (xs ys : List A) → x ∷ xs ≡ y ∷ ys → xs ≡ ys
tails x y xs ys e = cc

nil_cons : {A : Type 0} (y : A) (ys : List A) → [] ≡ y ∷ ys → ⊥
nil_cons y ys e = let z : ◌≡◌ {A = ℕ} 0 1 = cc in omega arith

module _ {M O : Type 0} (meaning : Meaning M) (entries : O → List ℕ) (outlooks : List O) where
  abbrev pub after : State M → Call → State M
  after x c = state_after meaning entries outlooks x c

  abbrev pub after_all : State M → List Call → State M
  after_all x cs = state_after_all meaning entries outlooks x cs

  abbrev pub told : State M → Call → Answer
  told x c = answer_to meaning entries outlooks x.core x.model c

  -- the calls beside the answers to them
  abbrev pub history : State M → List Call → History
  history x cs = beside cs (answers_to meaning entries outlooks x cs)

  abbrev pub calls_of : History → List Call
  calls_of h = map (λ e. e.0) h

  -- both parts of a history are histories, the second from where the first ends
  pub split : (x : State M) (cs : List Call) (past rest : History) → history x cs ≡ past ++ rest
      → (past ≡ history x (calls_of past)) × ((ds : List Call) × (rest ≡ history (after_all x (calls_of past)) ds))
  split x cs [] rest q = (refl, (cs, sym q))
  split x [] (b ∷ past) rest q = absurd (nil_cons b (past ++ rest) q)
  split x (c ∷ cs) (b ∷ past) rest q =
      let h = heads (c, told x c) b (history (after x c) cs) (past ++ rest) q in
      let t = tails (c, told x c) b (history (after x c) cs) (past ++ rest) q in
      let i = split (after x c) cs past rest t in
      subst (λ (e : Call × Answer). (e ∷ past ≡ history x (e.0 ∷ calls_of past)) × ((ds : List Call) × (rest ≡ history (after_all (after x e.0) (calls_of past)) ds))) h
      (ap (λ (es : History). (c, told x c) ∷ es) i.0, i.1)

  -- each answer is the one to its call
  first_told : (x : State M) (ds : List Call) (e : Call × Answer) (rest : History) → e ∷ rest ≡ history x ds → e.1 ≡ told x e.0
  first_told x [] e rest q = absurd (nil_cons e rest (sym q))
  first_told x (d ∷ ds) e rest q =
      subst (λ (y : Call × Answer). y.1 ≡ told x y.0) (heads (d, told x d) e (history (after x d) ds) rest (sym q)) refl

  pub answered : (x : State M) (cs : List Call) (before after : History) (e : Call × Answer) → history x cs ≡ before ++ e ∷ after
      → e.1 ≡ told (after_all x (calls_of before)) e.0
  answered x cs before after e q =
      let h = split x cs before (e ∷ after) q in
      first_told (after_all x (calls_of before)) h.1.0 e after h.1.1

  -- what the calls of a list do to the core
  pub goes_all : (x : State M) (cs : List Call) → Goes x.core (after_all x cs).core (ledger x.core.reservoir.credit (history x cs)) (choices (history x cs))
  goes_all x [] = record { fullness = refl; limit = refl; credit = refl; profile = refl; choices = omega arith }
  goes_all x (c ∷ cs) =
      let g = goes meaning entries outlooks x.core x.model c in
      let t = goes_all (after x c) cs in
      joins x.core (after x c).core (after_all (after x c) cs).core (entry x.core.reservoir.credit c (told x c)) (ledger x.core.reservoir.credit (history (after x c) cs))
      (choice (told x c)) (choices (history (after x c) cs)) g
      (subst (λ (k : ℤ). Goes (after x c).core (after_all (after x c) cs).core (ledger k (history (after x c) cs)) (choices (history (after x c) cs))) g.credit t)

  pub goes_past : (x : State M) (cs : List Call) (past rest : History) → history x cs ≡ past ++ rest
      → Goes x.core (after_all x (calls_of past)).core (ledger x.core.reservoir.credit past) (choices past)
  goes_past x cs past rest q =
      subst (λ (h : History). Goes x.core (after_all x (calls_of past)).core (ledger x.core.reservoir.credit h) (choices h)) (sym (split x cs past rest q).0)
      (goes_all x (calls_of past))

  -- while every accepted report is droppable, the fullness stays
  above_all : (x : State M) (cs : List Call) → Held x.core → AllByRecursion Droppable (history x cs) → Stays x.core (ledger x.core.reservoir.credit (history x cs))
  above_all x [] h d = h.fullness
  above_all x (c ∷ cs) h d =
      let s : Core = x.core in
      let g = goes meaning entries outlooks s x.model c in
      let a = above meaning entries outlooks s x.model c h d.0 in
      let t = above_all (after x c) cs (held meaning entries outlooks s x.model c h d.0) d.1 in
      above_join s.reservoir.limit s.reservoir.credit s.reservoir.fullness (entry s.reservoir.credit c (told x c)) (ledger s.reservoir.credit (history (after x c) cs)) a
      (subst (λ (f : ℤ). Above s.reservoir.limit s.reservoir.credit f (ledger s.reservoir.credit (history (after x c) cs))) g.fullness
      (subst (λ (l : ℤ). Above l s.reservoir.credit (after x c).core.reservoir.fullness (ledger s.reservoir.credit (history (after x c) cs))) g.limit
      (subst (λ (k : ℤ). Above (after x c).core.reservoir.limit k (after x c).core.reservoir.fullness (ledger k (history (after x c) cs))) g.credit t)))

  pub above_past : (x : State M) (cs : List Call) (past rest : History) → history x cs ≡ past ++ rest → Held x.core → AllByRecursion Droppable past
      → Stays x.core (ledger x.core.reservoir.credit past)
  above_past x cs past rest q h d =
      let e = (split x cs past rest q).0 in
      subst (λ (p : History). Stays x.core (ledger x.core.reservoir.credit p)) (sym e)
      (above_all x (calls_of past) h (subst (λ (p : History). AllByRecursion Droppable p) e d))
