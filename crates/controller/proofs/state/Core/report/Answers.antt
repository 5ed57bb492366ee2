use Rattle.std.proofs.Common.{sym, subst, arith, w64, SFits, rules}
use Rattle.controller.specs.Soundness.{Sound}
use Rattle.controller.proofs.Charges.{reported_is, reported_sound}
use Rattle.controller.proofs.state.Core.report.Goals as goal

pub returns : goal.returns
returns c =
    let s = c.args.self.now in
    let fs : SFits w64 s.rate_bias = search rules in
    let fx : SFits w64 c.surplus.result = search rules in
    let fb : SFits w64 c.saturating_add-self.result = search rules in
    let e =
    reported_is s c.args.subtype c.args.predicted c.args.bits c.args.shown c.args.droppable c.drops-dropped.result c.unless-charge.result c.coded_by.result c.from.result
    c.settle.new.self c.surplus.result c.saturating_add-self.result c.ranges.predicted fs fx fb c.drops-dropped.ensures c.unless-charge.ensures c.settle.ensures c.surplus.ensures
    c.saturating_add-self.ensures c.coded_by.ensures.value c.from.ensures.0 in
    record {
      answer = let d = c.drops-dropped.ensures in let u = c.unless-charge.ensures in cc;
      after = e;
      sound = subst Sound (sym e) (reported_sound s c.args.subtype c.args.predicted c.args.bits c.args.shown c.args.droppable c.requires.sound c.requires.room (omega arith));
    }
