-- The calls with raw numbers: their questions in order, their refusals, and their answers. Those of the tables are
-- passed on.
use Rattle.std.specs.Prelude.{ℕ, Bool, ℤ, Ok, Result, IfOk}
use Rattle.std.specs.Option.{ok_or}
pub use Rattle.raw_tables.specs.Calls.{number, and_then, depth_asked, answer, select_answer, number_of, AtDepth}
use Rattle.raw_tables.specs.declared.refusal.Refusal.{Refusal}
use Rattle.raw_tables.specs.declared.refusal.Refusal.TheVariants.{NoSuchSampling}
use Rattle.planes.specs.declared.sampling.ChromaSampling.{ChromaSampling}
use Rattle.planes.specs.Planes.{sampling_of}
use Rattle.quantize.specs.declared.answer.QuantizerParameters.{QuantizerParameters}
use Rattle.quantize.specs.Answer.{parameters_of}

-- is the sampling 0, 1, 2 or 3? no: refusal 5
abbrev pub sampling_asked : ℕ → Result ChromaSampling Refusal
sampling_asked code = ok_or (sampling_of code) NoSuchSampling

-- the depth is asked first, then the sampling
abbrev pub quantizer_answer : ℤ → ℤ → ℕ → ℕ → Bool → ℤ → Result QuantizerParameters Refusal
quantizer_answer logBase target bits code intra mean =
    and_then (depth_asked bits) (λ d. and_then (sampling_asked code) (λ s. Ok (parameters_of logBase target d s intra mean)))

-- what holds of an accepted answer at the sampling that was asked for
abbrev pub AtSampling : {X : Type 0} → ℕ → Result X Refusal → (ChromaSampling → X → Type 0) → Type 0
AtSampling code r P = IfOk (sampling_asked code) (λ s. IfOk r (P s))
