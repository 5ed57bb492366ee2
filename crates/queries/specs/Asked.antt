-- What the words of a line ask: the name, and then operands of their types, as many as it takes.
use Rattle.std.specs.Prelude.{ℕ, cond, List, [], length, ℤ, Some, None, codes, Option, ◌==◌, slice_index_or}
use Rattle.std.specs.Str.{bytes_eq}
use Rattle.tables.specs.declared.coefficient.Coefficient.{Coefficient}
use Rattle.tables.specs.declared.coefficient.Coefficient.TheVariants.{Dc, Ac}
use Rattle.words.specs.Words.{then, unsigned, signed, mark_of}
use Rattle.queries.specs.declared.query.Query.{Query}
use Rattle.queries.specs.declared.query.Query.TheVariants.{Blog64, Bexp64, Q, SelectQi, Quantizer}

-- one operand: a signed number of 64 bits
abbrev pub one_signed : List (List ℕ) → Option ℤ
one_signed ws = cond (length ws == 2) (signed (slice_index_or ws 1 [])) None

-- two operands of an entry: the depth and the index, each a byte
abbrev pub q : Coefficient → List (List ℕ) → Option Query
q c ws = cond (length ws == 3) (then (unsigned 8 (slice_index_or ws 1 [])) (λ d. then (unsigned 8 (slice_index_or ws 2 [])) (λ i. Some (Q c d i)))) None

-- two operands of a choice: the depth, a byte, and the quantizer, a signed number of 64 bits
abbrev pub select_qi : Coefficient → List (List ℕ) → Option Query
select_qi c ws = cond (length ws == 3) (then (unsigned 8 (slice_index_or ws 1 [])) (λ d. then (signed (slice_index_or ws 2 [])) (λ n. Some (SelectQi c d n)))) None

-- five operands: the log quantizer, depth, sampling, whether the frame is intra, and the mean
abbrev pub quantizer : List (List ℕ) → Option Query
quantizer ws =
    cond (length ws == 6)
    (then (signed (slice_index_or ws 1 [])) (λ q.
    then (unsigned 8 (slice_index_or ws 2 [])) (λ d.
    then (unsigned 8 (slice_index_or ws 3 [])) (λ s.
    then (mark_of (slice_index_or ws 4 [])) (λ i.
    then (signed (slice_index_or ws 5 [])) (λ m. Some (Quantizer q d s i m)))))))
    None

-- the question that the words of a line ask, if they ask one
abbrev pub asked : List (List ℕ) → Option Query
asked ws =
    cond (bytes_eq (slice_index_or ws 0 []) (codes "blog64")) (then (one_signed ws) (λ n. Some (Blog64 n)))
    (cond (bytes_eq (slice_index_or ws 0 []) (codes "bexp64")) (then (one_signed ws) (λ x. Some (Bexp64 x)))
    (cond (bytes_eq (slice_index_or ws 0 []) (codes "ac_q")) (q Ac ws)
    (cond (bytes_eq (slice_index_or ws 0 []) (codes "dc_q")) (q Dc ws)
    (cond (bytes_eq (slice_index_or ws 0 []) (codes "select_ac_qi")) (select_qi Ac ws)
    (cond (bytes_eq (slice_index_or ws 0 []) (codes "select_dc_qi")) (select_qi Dc ws)
    (cond (bytes_eq (slice_index_or ws 0 []) (codes "quantizer")) (quantizer ws) None))))))
