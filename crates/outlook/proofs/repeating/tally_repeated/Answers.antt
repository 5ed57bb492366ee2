use Rattle.std.proofs.Common.{[], ◌≡◌, ℕ, ◌-◌, ◌<◌, List, count_by, sym, ap, ◌∙◌, subst, arith}
use Rattle.std.proofs.lemmas.Grind.{common_steps}
use Rattle.std.proofs.lemmas.List.Sums.{count_by-le-length}
use Rattle.outlook.specs.declared.counts.Counts.{Counts}
use Rattle.outlook.specs.Bytes.{is_shown, front, repeated}
use Rattle.outlook.specs.Counting.{tally, both, Within}
use Rattle.outlook.specs.Packing.{packed_bytes, length_packed}
use Rattle.outlook.specs.Fronts.{front_none, front_all}
use Rattle.outlook.proofs.Repeats.{cycled, cycled_within, repeated_within}
use Rattle.outlook.proofs.repeating.tally_repeated.Goals as goal
use Rattle.outlook.proofs.repeating.tally_repeated.Goals.{After-repeat}

pub returns-then-units-eq0-clause-value : goal.returns-then-units-eq0-clause-value
returns-then-units-eq0-clause-value c =
    let xs : List ℕ = packed_bytes c.args.entries.now in
    let none : c.default.result ≡ tally [] = grind (arith, common_steps) in
    none ∙ ap tally (sym (front_none (repeated xs))) ∙ ap (λ u. tally (front u (repeated xs))) (sym c.if-units-eq0.true)

-- the whole cycles and the rest together
together : (c : After-repeat) → both c.repeat.result c.tally_front-rest.result ≡ tally (front c.args.units (repeated (packed_bytes c.args.entries.now)))
together c =
    let xs : List ℕ = packed_bytes c.args.entries.now in
    let few : count_by is_shown xs < 4294967295 = omega (arith, count_by-le-length is_shown xs, length_packed c.args.entries.now) in
    let cycle : c.tally_front-cycle.result ≡ tally xs = c.tally_front-cycle.ensures.value ∙ ap tally (front_all xs 4294967295 few) in
    let none-off : c.part-end.result - 0 ≡ c.part-end.result = omega arith in
    cycled c.args.entries.now c.args.units c.whole_cycles-whole.result (c.part-end.result - 0) c.tally_front-cycle.result c.repeat.result c.tally_front-rest.result
    c.requires.0 cycle c.whole_cycles-whole.ensures.bound c.whole_cycles-whole.ensures.under c.whole_cycles-whole.ensures.last (none-off ∙ c.part-end.ensures) c.repeat.ensures c.tally_front-rest.ensures.value

pub plus-requires : goal.plus-requires
plus-requires c = cycled_within c.args.units (packed_bytes c.args.entries.now) c.repeat.result c.tally_front-rest.result (together c)

pub returns : goal.returns
returns c =
    let xs : List ℕ = packed_bytes c.args.entries.now in
    let e : c.plus.result ≡ tally (front c.args.units (repeated xs)) = c.plus.ensures ∙ together (goal.at.returns c).After-repeat in
    record { value = e; bound = subst (λ (a : Counts). Within 4096 a) (sym e) (repeated_within c.args.units xs) }
