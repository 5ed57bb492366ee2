-- What a question is answered, by the definitions of the logarithm, the exponential and the quantizer.
use Rattle.std.specs.Prelude.{ℕ, List, ◌++◌, Ok, Err, Result, Some, None, Option, codes}
use Rattle.std.specs.Fmt.{decimal, signed_decimal}
use Rattle.logexp.specs.LogExp.{bexp64, blog64}
use Rattle.quantize.specs.declared.answer.Refusal.{Refusal}
use Rattle.quantize.specs.Call.{number, and_then, answer, select_answer, quantizer_answer}
use Rattle.queries.specs.declared.answer.Answer.{Answer}
use Rattle.queries.specs.declared.answer.Answer.TheVariants.{Log, Entry, Index, Parameters}
use Rattle.queries.specs.declared.query.Query.{Query}
use Rattle.queries.specs.declared.query.Query.TheVariants.{Blog64, Bexp64, Q, SelectQi, Quantizer}

-- the answer of each question, or its refusal; a frame's quantizer is asked for one log, its base and its own
abbrev pub told : Query → Result Answer Refusal
told (Blog64 n) = Ok (Log (blog64 n))
told (Bexp64 x) = Ok (Log (bexp64 x))
told (Q c d i) = and_then (answer c i d) (λ e. Ok (Entry e))
told (SelectQi c d q) = and_then (select_answer c q d) (λ i. Ok (Index i))
told (Quantizer q d s i m) = and_then (quantizer_answer q q d s i m) (λ p. Ok (Parameters p))

-- how an answer is written: its number; of a frame's quantizer, whose scales are floating numbers, nothing is said
abbrev pub answer_text : Answer → Option (List ℕ)
answer_text (Log n) = Some (signed_decimal n)
answer_text (Entry n) = Some (decimal n)
answer_text (Index n) = Some (decimal n)
answer_text (Parameters p) = None

-- what is printed for a question: the text of its answer, or `refused` and the number of the refusal
abbrev pub outcome_text : Result Answer Refusal → Option (List ℕ)
outcome_text (Ok a) = answer_text a
outcome_text (Err r) = Some (codes "refused " ++ decimal (number r))
