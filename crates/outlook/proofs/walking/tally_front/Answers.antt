use Rattle.std.proofs.Common.{ap, ◌∙◌, arith}
use Rattle.outlook.specs.Counting.{tally, both}
use Rattle.outlook.specs.Fronts.{front_reached}
use Rattle.outlook.specs.declared.packed.Packed.{Packed}
use Rattle.outlook.specs.Packing.{packed_bytes, packed_at, length_packed}
use Rattle.outlook.proofs.Walks.{walk_within, one_within, walk_more}
use Rattle.outlook.proofs.walking.tally_front.Goals as goal

pub plus-all-requires : goal.plus-all-requires
plus-all-requires c = (
  walk_within c.args.entries.now c.loop-entry.entry-index c.loop-entry.all c.requires c.loop-entry.invariant.0,
  one_within c.of_one.result _ c.of_one.ensures,
)

pub returns-then-all-units-clause-value : goal.returns-then-all-units-clause-value
returns-then-all-units-clause-value c =
    c.loop-entry.invariant.0
    ∙ ap tally (front_reached (packed_bytes c.args.entries.now) c.loop-entry.entry-index c.args.units c.loop-entry.all.shown c.if-all-units.true c.loop-entry.invariant.1)

pub loop-entry-preserved : goal.loop-entry-preserved
loop-entry-preserved c =
    let es = c.args.entries.now in
    let i = c.loop-entry.entry-index in
    walk_more (packed_bytes es) c.args.units i _ c.loop-entry.all c.plus-all.result c.loop-entry.invariant
    (omega (arith, length_packed es))
    (c.from.ensures ∙ ap (λ (p : Packed). p.byte) c.entry-item.is ∙ packed_at es i c.entry-item.result c.loop-entry-test.true)
    c.if-all-units.false
    (c.plus-all.ensures ∙ ap (both c.loop-entry.all) c.of_one.ensures)
