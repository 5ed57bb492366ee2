-- The line that words make: its name, and then operands of their types, as many as it takes.
use Rattle.std.specs.Prelude.{ℕ, cond, List, [], length, Some, None, codes, Option, ◌==◌, slice_index_or}
use Rattle.std.specs.Str.{bytes_eq}
use Rattle.words.specs.Words.{then, unsigned, signed, mark_of, maybe}
use Rattle.model.specs.declared.settings.Settings.{Settings}
use Rattle.scripts.specs.declared.line.Line.{Line}
use Rattle.scripts.specs.declared.line.Line.TheVariants.{Curve, Open, Choose, Trial, Report, Withdraw, Show, Status}

-- a name alone
abbrev pub alone : Line → List (List ℕ) → Option Line
alone l ws = cond (length ws == 1) (Some l) None

-- twelve operands: the settings of a run
abbrev pub opening : List (List ℕ) → Option Settings
opening ws =
    cond (length ws == 13)
    (then (unsigned 32 (slice_index_or ws 1 [])) (λ width.
    then (unsigned 32 (slice_index_or ws 2 [])) (λ height.
    then (unsigned 32 (slice_index_or ws 3 [])) (λ num.
    then (unsigned 32 (slice_index_or ws 4 [])) (λ den.
    then (unsigned 32 (slice_index_or ws 5 [])) (λ rate.
    then (unsigned 8 (slice_index_or ws 6 [])) (λ depth.
    then (unsigned 8 (slice_index_or ws 7 [])) (λ sampling.
    then (unsigned 8 (slice_index_or ws 8 [])) (λ low.
    then (maybe (unsigned 8) (slice_index_or ws 9 [])) (λ high.
    then (unsigned 32 (slice_index_or ws 10 [])) (λ interval.
    then (maybe (unsigned 32) (slice_index_or ws 11 [])) (λ delay.
    then (mark_of (slice_index_or ws 12 [])) (λ drops.
    Some record { width = width; height = height; numerator = num; denominator = den; bitrate = rate; depth = depth; sampling = sampling; lowest = low; highest = high; interval = interval; delay = delay; dropping = drops })))))))))))))
    None

-- the opening of a run
abbrev pub opened : List (List ℕ) → Option Line
opened ws = then (opening ws) (λ s. Some (Open s))

-- three operands: the subtype, the base of the previous frame, which may be absent, and the mean
abbrev pub choice : List (List ℕ) → Option Line
choice ws =
    cond (length ws == 4)
    (then (unsigned 8 (slice_index_or ws 1 [])) (λ k.
    then (maybe signed (slice_index_or ws 2 [])) (λ p.
    then (signed (slice_index_or ws 3 [])) (λ m. Some (Choose k p m)))))
    None

-- two operands: the ticket's number and the bits
abbrev pub trial : List (List ℕ) → Option Line
trial ws =
    cond (length ws == 3)
    (then (unsigned 64 (slice_index_or ws 1 [])) (λ t.
    then (unsigned 32 (slice_index_or ws 2 [])) (λ b. Some (Trial t b))))
    None

-- four operands: the ticket's number, the bits, whether the frame is shown and whether it may be dropped
abbrev pub report : List (List ℕ) → Option Line
report ws =
    cond (length ws == 5)
    (then (unsigned 64 (slice_index_or ws 1 [])) (λ t.
    then (unsigned 32 (slice_index_or ws 2 [])) (λ b.
    then (mark_of (slice_index_or ws 3 [])) (λ s.
    then (mark_of (slice_index_or ws 4 [])) (λ d. Some (Report t b s d))))))
    None

-- one operand: the ticket's number
abbrev pub withdrawal : List (List ℕ) → Option Line
withdrawal ws = cond (length ws == 2) (then (unsigned 64 (slice_index_or ws 1 [])) (λ t. Some (Withdraw t))) None

-- the line that the words make, if they make one that is no stair, list or pattern
abbrev pub said : List (List ℕ) → Option Line
said ws =
    cond (bytes_eq (slice_index_or ws 0 []) (codes "curve")) (alone Curve ws)
    (cond (bytes_eq (slice_index_or ws 0 []) (codes "open")) (opened ws)
    (cond (bytes_eq (slice_index_or ws 0 []) (codes "choose")) (choice ws)
    (cond (bytes_eq (slice_index_or ws 0 []) (codes "trial")) (trial ws)
    (cond (bytes_eq (slice_index_or ws 0 []) (codes "report")) (report ws)
    (cond (bytes_eq (slice_index_or ws 0 []) (codes "withdraw")) (withdrawal ws)
    (cond (bytes_eq (slice_index_or ws 0 []) (codes "show")) (alone Show ws)
    (cond (bytes_eq (slice_index_or ws 0 []) (codes "status")) (alone Status ws) None)))))))
