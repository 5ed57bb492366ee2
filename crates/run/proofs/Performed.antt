-- A run joined to the laws.
use Rattle.std.proofs.Common.{◌≡◌, ℕ, ◌<◌, List, Ok, vec_items, Result, sym, ap, subst}
use Rattle.model.specs.Meaning.{Meaning}
use Rattle.flat.specs.Flat.{LogsOrdered}
use Rattle.search.specs.Hunt.{Hunts}
use Rattle.aim.specs.Bounds.{highest_of}
use Rattle.model.specs.declared.settings.Settings.{Settings}
use Rattle.model.specs.declared.refusal.Refusal.{Refusal}
use Rattle.calls.specs.declared.call.Call.{Call}
use Rattle.calls.specs.declared.answer.Answer.{Answer}
use Rattle.controller.specs.declared.state.Core.{Core}
use Rattle.controller.specs.declared.controller.Controller.{Controller}
use Rattle.controller.specs.Opening.{opened}
use Rattle.run.specs.declared.outcome.Run.{Run}
use Rattle.run.specs.Answers.{State, state_after_all, answers_to}
use Rattle.run.specs.Laws.{Laws}
use Rattle.run.specs.Runs.{beside, Performed}
use Rattle.run.proofs.Lawful.{lawful}
use Rattle.run.proofs.Opening.{fresh, opened_facts}

module _ {M O : Type 0} (meaning : Meaning M) (entries : O → List ℕ) (outlooks : List O) (settings : Settings) (model : M) (calls : List Call) where
  -- an opened controller over the model, and what the calls made of it
  pub performed : Hunts → LogsOrdered → highest_of settings.highest < 256 → (k : Controller M) (r : Run M)
      → ◌≡◌ {A = Result Core Refusal × M} (Ok k.core, k.model) (opened settings, model)
      → vec_items r.answers ≡ answers_to meaning entries outlooks (record { core = k.core; model = k.model }) calls
      → r.controller.core ≡ (state_after_all meaning entries outlooks (record { core = k.core; model = k.model }) calls).core
      → r.controller.model ≡ (state_after_all meaning entries outlooks (record { core = k.core; model = k.model }) calls).model
      → Performed meaning entries outlooks settings model calls k.core r
  performed hunts logs last k r e a b c =
      let o : Ok k.core ≡ opened settings = ap (λ (p : Result Core Refusal × M). p.0) e in
      let m : k.model ≡ model = ap (λ (p : Result Core Refusal × M). p.1) e in
      let f = fresh settings k.core o in
      let facts = opened_facts logs k.core k.sound.ordered (subst (λ h. highest_of h < 256) (sym f.highest) last)
      k.sound.credit_least k.sound.credit_most k.sound.full k.sound.deep f.accepted f.choices in
      let x : State M = record { core = k.core; model = model } in
      let told : vec_items r.answers ≡ answers_to meaning entries outlooks x calls =
      subst (λ (z : M). vec_items r.answers ≡ answers_to meaning entries outlooks (record { core = k.core; model = z }) calls) m a in
      record {
        opening = sym o;
        answers = told;
        core_left = subst (λ (z : M). r.controller.core ≡ (state_after_all meaning entries outlooks (record { core = k.core; model = z }) calls).core) m b;
        model_left = subst (λ (z : M). r.controller.model ≡ (state_after_all meaning entries outlooks (record { core = k.core; model = z }) calls).model) m c;
        laws = subst (λ (h : List Answer). Laws meaning entries outlooks x (beside calls h)) (sym told) (lawful meaning entries outlooks x calls hunts facts);
      }
