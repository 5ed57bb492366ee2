-- A turn goes up or down, or meets the total; the last middle lies where the ends meet.
use Rattle.std.proofs.Common.{◌+◌, ap, ◌∙◌, arith, w64, SFits, rules}
use Rattle.std.proofs.lemmas.Int.{ints}
use Rattle.search.specs.Predict.{forecast}
use Rattle.search.proofs.Turns.{told_at, left, went_up, went_down, met, ended, hunting_at, told_from}
use Rattle.search.proofs.hunt.search.Goals as goal

pub up-span-requires-clause-few : goal.up-span-requires-clause-few
up-span-requires-clause-few g c = left _ _ _ _ _ _ c.loop-span.invariant (omega (arith, ints))

pub loop-span-smaller-then-bits-total : goal.loop-span-smaller-then-bits-total
loop-span-smaller-then-bits-total g c =
    let l = left _ _ _ _ _ _ c.loop-span.invariant (omega (arith, ints)) in
    omega (arith, c.up-span.ensures.tries)

pub loop-span-preserved-then-bits-total : goal.loop-span-preserved-then-bits-total
loop-span-preserved-then-bits-total g c =
    let p = forecast g.M.BitModel.meaning c.args.model.now c.args.counts.now.kinds in
    let f : SFits w64 c.middle-base.result = search rules in
    let b = told_at p c.predict_base-bits.result c.middle-base.result f c.predict_base-bits.ensures ∙ ap p c.middle-base.ensures.value in
    hunting_at c.up-span.result c.up-span.ensures.lo c.up-span.ensures.hi c.up-span.ensures.tries
    (went_up p _ _ _ _ _ c.loop-span.invariant (omega (arith, ints)) (omega (arith, ints, b)))

pub down-span-requires-clause-few : goal.down-span-requires-clause-few
down-span-requires-clause-few g c = left _ _ _ _ _ _ c.loop-span.invariant (omega (arith, ints))

pub loop-span-smaller : goal.loop-span-smaller
loop-span-smaller g c =
    let l = left _ _ _ _ _ _ c.loop-span.invariant (omega (arith, ints)) in
    omega (arith, c.down-span.ensures.tries)

pub loop-span-preserved : goal.loop-span-preserved
loop-span-preserved g c =
    let p = forecast g.M.BitModel.meaning c.args.model.now c.args.counts.now.kinds in
    let f : SFits w64 c.middle-base.result = search rules in
    let b = told_at p c.predict_base-bits.result c.middle-base.result f c.predict_base-bits.ensures ∙ ap p c.middle-base.ensures.value in
    hunting_at c.down-span.result c.down-span.ensures.lo c.down-span.ensures.hi c.down-span.ensures.tries
    (went_down p _ _ _ _ _ c.loop-span.invariant (omega (arith, ints)) (omega (arith, ints, b)))

pub returns-else-bits-total-2 : goal.returns-else-bits-total-2
returns-else-bits-total-2 g c =
    let p = forecast g.M.BitModel.meaning c.args.model.now c.args.counts.now.kinds in
    let f : SFits w64 c.middle-base.result = search rules in
    let b = told_at p c.predict_base-bits.result c.middle-base.result f c.predict_base-bits.ensures ∙ ap p c.middle-base.ensures.value in
    let t =
    told_from p c.args.total c.middle-base.result _ c.args.ends (c.loop-span.span.tries + 1) c.ranges.total f c.middle-base.ensures.value
    (met p _ _ _ _ _ c.loop-span.invariant (omega (arith, ints)) (omega (arith, ints, b))) in
    record { exact = t.exact; few = t.few; hits = t.hits }

pub returns : goal.returns
returns g c =
    let p = forecast g.M.BitModel.meaning c.args.model.now c.args.counts.now.kinds in
    let f : SFits w64 c.middle.result = search rules in
    let t =
    told_from p c.args.total c.middle.result _ c.args.ends c.loop-span.span.tries c.ranges.total f c.middle.ensures.value
    (ended p _ _ _ _ _ c.loop-span.invariant (omega (arith, ints))) in
    record { exact = t.exact; few = t.few; hits = t.hits }
