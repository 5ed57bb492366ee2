use Rattle.controller.proofs.Choosings.{looked}
use Rattle.controller.proofs.controller.Controller.look.Goals as goal

pub returns : goal.returns
returns g c =
    let l =
    looked g.M.BitModel.meaning c.args.self.now.core c.args.self.now.model c.args.counts.now c.args.total c.highest_of.result c.between-ends.result.bottom
    c.between-ends.result.top c.search.result c.args.self.now.sound.ordered c.ranges.total c.highest_of.ensures c.between-ends.ensures.bottom c.between-ends.ensures.top
    c.search.ensures.exact c.search.ensures.few c.search.ensures.hits in
    record { exact = l.exact; few = l.few; hits = l.hits }
