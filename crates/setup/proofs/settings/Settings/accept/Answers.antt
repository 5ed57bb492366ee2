-- The last question, after the seven that give depth and sampling.
use Rattle.std.proofs.Common.{ap, ◌∙◌}
use Rattle.setup.specs.Opening.{credit_of, units_of}
use Rattle.setup.proofs.Asking.{lawful_of, ordered_of, limit_over, limit_kept}
use Rattle.setup.proofs.settings.Settings.accept.Goals as goal

pub lawful-lawful-requires : goal.lawful-lawful-requires
lawful-lawful-requires c = lawful_of c.args.self.now (c.in_ok-depth.depth, c.in_ok-depth.sampling) c.in_ok-depth.ensures
