use Rattle.std.proofs.Common.{w64, SFits, rules}
use Rattle.controller.proofs.Choosings.{aim_is}
use Rattle.controller.proofs.controller.Controller.aim.Goals as goal

pub returns : goal.returns
returns g c =
    let fb : SFits w64 c.near_previous-log_base_q.result = search rules in
    let fq : SFits w64 c.log_q.result = search rules in
    let fl : SFits w64 c.trim-log_q.result = search rules in
    aim_is g.M.BitModel.meaning c.args.self.now.core c.args.self.now.model c.args.subtype c.args.previous c.args.found c.near_previous-log_base_q.result c.log_q.result
    c.trim-log_q.result c.from.result c.room.result c.under_highest-below.result c.over_lowest.result c.ranges.found fb fq fl c.near_previous-log_base_q.ensures c.from.ensures.0
    c.log_q.ensures.value c.room.ensures c.trim-log_q.ensures c.under_highest-below.ensures c.over_lowest.ensures
