use Rattle.std.proofs.Common.{refl}
use Rattle.tables.specs.Choice.{index}
use Rattle.quantize.proofs.laws.figures_stand.Goals as goal

pub returns : goal.returns
unfolding index
returns c =
    record {
      ac_5 = refl;
      ac_6 = refl;
      ac_1827 = refl;
      ac_1828 = refl;
      dc_8 = refl;
      dc_86 = refl;
      low_10 = refl;
      high_10 = refl;
      low_200 = refl;
      high_200 = refl;
    }
