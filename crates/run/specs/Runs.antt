-- What a run promises: the answers that the rules give, one for each call, and that the whole of it is lawful.
use Rattle.std.specs.Prelude.{◌≡◌, ℕ, List, [], ◌∷◌, Ok, Err, vec_items, Result}
use Rattle.model.specs.Meaning.{Meaning}
use Rattle.model.specs.declared.settings.Settings.{Settings}
use Rattle.calls.specs.declared.call.Call.{Call}
use Rattle.controller.specs.declared.state.Core.{Core}
use Rattle.controller.specs.Opening.{opened}
use Rattle.run.specs.declared.outcome.Fault.{Fault}
use Rattle.run.specs.declared.outcome.Fault.TheVariants.{Opening, Memory}
use Rattle.run.specs.declared.outcome.NotRun.{NotRun}
use Rattle.run.specs.declared.outcome.Run.{Run}
use Rattle.run.specs.Answers.{state_after_all, answers_to}
use Rattle.run.specs.Laws.{Laws}

-- two lists side by side
abbrev pub beside : {A B : Type 0} → List A → List B → List (A × B)
beside [] ys = []
beside (x ∷ xs) [] = []
beside (x ∷ xs) (y ∷ ys) = (x, y) ∷ beside xs ys

-- a refused opening names the first of its questions that is answered by no; want of memory says nothing of the settings
abbrev pub Faulty : Settings → Fault → Type 0
Faulty settings (Opening e) = opened settings ≡ Err e
Faulty settings Memory = Unit {0}

module _ {M O : Type 0} (meaning : Meaning M) (entries : O → List ℕ) (outlooks : List O) (settings : Settings) (model : M) (calls : List Call) where
  -- a run from an opened core: the answers, the core and the model are those that the rules give, and the history of all
  -- calls is lawful
  pub record Performed (core : Core) (r : Run M) : Type 0 where
    pub opening : opened settings ≡ Ok core
    pub answers : vec_items r.answers ≡ answers_to meaning entries outlooks (record { core = core; model = model }) calls
    pub core_left : r.controller.core ≡ (state_after_all meaning entries outlooks (record { core = core; model = model }) calls).core
    pub model_left : r.controller.model ≡ (state_after_all meaning entries outlooks (record { core = core; model = model }) calls).model
    pub laws : Laws meaning entries outlooks (record { core = core; model = model }) (beside calls (vec_items r.answers))

  -- a run was performed, or it was not and the model that was handed in comes back
  abbrev pub Ran : Result (Run M) (NotRun M) → Type 0
  Ran (Ok r) = (core : Core) × Performed core r
  Ran (Err n) = Faulty settings n.fault × (n.model ≡ model)
