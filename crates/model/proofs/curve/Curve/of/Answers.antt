-- The curve from the settings' figures.
use Rattle.std.proofs.Common.{arith, w64, to_z, rules}
use Rattle.std.proofs.lemmas.Int.{to_z_pos}
use Rattle.model.proofs.Making.{curve_by}
use Rattle.model.proofs.curve.Curve.of.Goals as goal

pub returns : goal.returns
returns c =
    record {
      value =
          curve_by c.args.settings.now.settings c.pixels-npixels.result c.credit.result c.units.result c.fresh_filters.result (to_z w64 c.pixels-npixels.result) c.blog64.result (search rules)
          c.pixels-npixels.ensures.value c.credit.ensures.value c.fresh_filters.ensures (to_z_pos w64 c.pixels-npixels.result (omega arith)) c.blog64.ensures.value c.units.ensures.value;
      target = omega arith;
    }
