use Rattle.std.proofs.Common.{◌≡◌, eqb, w64, SFits, rules}
use Rattle.flat.specs.Flat.{code_of}
use Rattle.controller.proofs.Choosings.{decided_is}
use Rattle.controller.proofs.controller.Controller.decide.Goals as goal

pub returns : goal.returns
returns g c =
    let s = c.args.self.now.core in
    let ft : SFits w64 c.total-total.result = search rules in
    let ff : SFits w64 c.look-found.result.base = search rules in
    let fb : SFits w64 c.aim-aim.result.log_base_q = search rules in
    let fq : SFits w64 c.aim-aim.result.log_q = search rules in
    let i : c.eq-intra.result ≡ eqb (code_of c.args.subtype) 0 = search rules in
    let p =
    decided_is g.M.BitModel.meaning s c.args.self.now.model c.args.counts.now c.args.subtype c.args.previous c.args.mean c.total-total.result c.eq-intra.result
    c.look-found.result c.aim-aim.result c.of-quantizer.result c.ranges.mean ft ff fb fq c.total-total.ensures c.look-found.ensures.exact c.look-found.ensures.few
    c.look-found.ensures.hits c.aim-aim.ensures i c.of-quantizer.ensures.value c.of-quantizer.ensures.lawful in
    record { exact = p.exact; decides = p.decides }
