use Rattle.std.proofs.Common.{arith, w64, SFits, rules}
use Rattle.search.proofs.Forecasting.{skipped, share_is}
use Rattle.search.proofs.forecast.add_share.Goals as goal

pub returns-then-frames-eq0 : goal.returns-then-frames-eq0
returns-then-frames-eq0 g c = skipped g.M.BitModel.meaning c.args.model.now c.args.subtype c.args.frames c.args.base c.args.sum c.ranges.sum (omega arith)

pub returns : goal.returns
returns g c =
    let s1 : SFits w64 c.log_q.result = search rules in
    let s2 : SFits w64 c.predict-bits.result = search rules in
    let s3 : SFits w64 c.saturating_mul.result = search rules in
    let s4 : SFits w64 c.saturating_add.result = search rules in
    share_is g.M.BitModel.meaning c.args.model.now c.args.subtype c.args.frames c.from.result c.args.sum c.args.base c.log_q.result c.predict-bits.result c.saturating_mul.result c.saturating_add.result
    (omega arith) c.ranges.sum c.ranges.base s1 s2 s3 s4 c.from.ensures.0 c.log_q.ensures.value c.predict-bits.ensures c.saturating_mul.ensures c.saturating_add.ensures
