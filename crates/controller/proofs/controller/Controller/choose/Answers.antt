use Rattle.std.proofs.Common.{◌≡◌, true, false, ltb, Some, sym, refl, w64, SFits, rules}
use Rattle.flat.specs.Flat.{subtype_of_code}
use Rattle.controller.specs.After.{any_out}
use Rattle.controller.proofs.Choosings.{known_code, chose}
use Rattle.controller.proofs.controller.Controller.choose.Goals as goal

pub returns : goal.returns
returns g c =
    let s = c.args.self.now.core in
    let free : any_out s.out ≡ false = sym c.if-any_out.ensures in
    let some : subtype_of_code c.args.subtype ≡ Some c.in-Ok.kind = sym c.in-Ok.ensures in
    let lawful : ltb c.args.subtype 4 ≡ true = known_code c.args.subtype c.in-Ok.kind some in
    let fq : SFits w64 c.decide-decision.result.quantizer.log_target_q = search rules in
    let k =
    chose g.M.BitModel.meaning s c.args.self.now.model (g.O.Outlook.entries c.args.outlook.now) c.args.subtype c.in-Ok.kind c.args.previous c.args.log_isqrt_mean_scale
    c.count-counts.result c.decide-decision.result c.issue-number.result c.numbered.result c.issue-number.new.self free some c.ranges.log_isqrt_mean_scale fq c.count-counts.ensures.value
    c.decide-decision.ensures.exact c.decide-decision.ensures.decides c.issue-number.ensures.answer c.numbered.ensures c.issue-number.ensures.after in
    record { number = rw (free, lawful) refl; answer = k.answer; core = k.core; model = search rules; decides = k.decides }
