use Rattle.std.proofs.Common.{◌<◌, rules}
use Rattle.aim.specs.Bounds.{highest_of}
use Rattle.run.proofs.Performed.{performed}
use Rattle.run.proofs.running.run.Goals as goal

pub returns : goal.returns
returns g c =
    let last : highest_of c.args.settings.now.highest < 256 = search rules in (
      c.in_ok-controller.controller.core,
      performed _ _ c.args.outlooks.now c.args.settings.now c.args.model c.args.calls.now c.hunts_stand.ensures c.logs_stand.ensures last
          c.in_ok-controller.controller (record { controller = c.perform_all.new.controller; answers = c.perform_all.new.answers })
          c.in_ok-controller.ensures c.perform_all.ensures.answers c.perform_all.ensures.core c.perform_all.ensures.model,
    )
