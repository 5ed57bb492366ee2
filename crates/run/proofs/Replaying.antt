-- The loop of a run: after i calls, what the rest of them gives behind the answers so far is what all of them give.
use Rattle.std.proofs.Common.{◌≡◌, ℕ, ◌+◌, ◌<◌, ◌≤◌, List, [], ◌∷◌, ◌++◌, length, get_or, drop, sym, refl, ap, ◌∙◌}
use Rattle.std.proofs.lemmas.List.{append_assoc, append-nil, at_drop_more, at_drop_all}
use Rattle.model.specs.Meaning.{Meaning}
use Rattle.calls.specs.declared.call.Call.{Call}
use Rattle.calls.specs.declared.answer.Answer.{Answer}
use Rattle.controller.specs.declared.state.Core.{Core}
use Rattle.controller.specs.Performing.{answer_to, core_after, model_after}
use Rattle.run.specs.Answers.{State, state_after_all, answers_to}

module _ {M O : Type 0} (meaning : Meaning M) (entries : O → List ℕ) (outlooks : List O) where
  abbrev told : State M → List Call → List Answer
  told x cs = answers_to meaning entries outlooks x cs

  abbrev left : State M → List Call → State M
  left x cs = state_after_all meaning entries outlooks x cs

  module _ (x0 : State M) (calls : List Call) where
    -- after i calls, in the state x, with the answers so far
    pub record Replaying (i : ℕ) (s : Core) (m : M) (answers : List Answer) : Type 0 where
      pub told_is : answers ++ told (record { core = s; model = m }) (drop i calls) ≡ told x0 calls
      pub left_is : left (record { core = s; model = m }) (drop i calls) ≡ left x0 calls

    pub replay_none : (answers : List Answer) → answers ≡ [] → Replaying 0 x0.core x0.model answers
    replay_none answers e = record { told_is = rw e; left_is = refl }

    pub replay_more : (i : ℕ) (c : Call) (e : Call) (s t : Core) (m n : M) (answers answers' : List Answer) (a : Answer) → i < length calls → c ≡ get_or calls i e
        → a ≡ answer_to meaning entries outlooks s m c → t ≡ core_after meaning entries outlooks s m c → n ≡ model_after meaning entries outlooks s m c
        → answers' ≡ answers ++ a ∷ [] → Replaying i s m answers → Replaying (i + 1) t n answers'
    replay_more i c e s t m n answers answers' a l g ea et en ev h =
        let x : State M = record { core = s; model = m } in
        let d : told x (drop i calls) ≡ told x (get_or calls i e ∷ drop (i + 1) calls) = at_drop_more (told x) calls i e l in
        let d2 : left x (drop i calls) ≡ left x (get_or calls i e ∷ drop (i + 1) calls) = at_drop_more (left x) calls i e l in
        let p : told x (drop i calls) ≡ told x (c ∷ drop (i + 1) calls) = rw (← g) at d in
        let p2 : left x (drop i calls) ≡ left x (c ∷ drop (i + 1) calls) = rw (← g) at d2 in
        record {
          told_is = rw (ev, et, en, ea, append_assoc) (ap (λ (y : List Answer). answers ++ y) (sym p) ∙ h.told_is);
          left_is = rw (et, en) (sym p2 ∙ h.left_is);
        }

    pub replay_all : (i : ℕ) (s : Core) (m : M) (answers : List Answer) → length calls ≤ i → Replaying i s m answers
        → (answers ≡ told x0 calls) × (s ≡ (left x0 calls).core) × (m ≡ (left x0 calls).model)
    replay_all i s m answers l h =
        let x : State M = record { core = s; model = m } in
        let d : told x (drop i calls) ≡ [] = at_drop_all (told x) calls i l in
        let d2 : left x (drop i calls) ≡ x = at_drop_all (left x) calls i l in
        let e : x ≡ left x0 calls = sym d2 ∙ h.left_is in
        (sym (append-nil answers) ∙ ap (λ (y : List Answer). answers ++ y) (sym d) ∙ h.told_is, ap (λ (y : State M). y.core) e, ap (λ (y : State M). y.model) e)
