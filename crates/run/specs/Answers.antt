-- What a controller answers to a list of calls, one after another, and what it holds after them.
use Rattle.std.specs.Prelude.{ℕ, List, [], ◌∷◌}
use Rattle.model.specs.Meaning.{Meaning}
use Rattle.calls.specs.declared.call.Call.{Call}
use Rattle.calls.specs.declared.answer.Answer.{Answer}
use Rattle.controller.specs.declared.state.Core.{Core}
use Rattle.controller.specs.Performing.{answer_to, core_after, model_after}

-- what a controller holds: its core and its model
pub record State (M : Type 0) : Type 0 where
  pub core : Core
  pub model : M

module _ {M O : Type 0} (meaning : Meaning M) (entries : O → List ℕ) (outlooks : List O) where
  -- after one call
  abbrev pub state_after : State M → Call → State M
  state_after x c = record {
    core = core_after meaning entries outlooks x.core x.model c;
    model = model_after meaning entries outlooks x.core x.model c;
  }

  -- after the calls of a list
  abbrev pub state_after_all : State M → List Call → State M
  state_after_all x [] = x
  state_after_all x (c ∷ cs) = state_after_all (state_after x c) cs

  -- the answers to the calls of a list
  abbrev pub answers_to : State M → List Call → List Answer
  answers_to x [] = []
  answers_to x (c ∷ cs) = answer_to meaning entries outlooks x.core x.model c ∷ answers_to (state_after x c) cs
