-- The figures by computing.
use Rattle.std.proofs.Common.{ℕ, List, refl}
use Rattle.logexp.specs.LogExp.{computing}
use Rattle.model.specs.Meaning.{Meaning}
use Rattle.bessel.specs.Figures.{computing as tangents}
use Rattle.tables.specs.Choice.{index}
use Rattle.figures.specs.Figures.{Drops, Figures}
use Rattle.figures.proofs.Nothing.{nothing_ahead}

module _ {M O : Type 0} (meaning : Meaning M) (entries : O → List ℕ) where
  drops : (outlooks : List O) (m : M) → Drops meaning entries outlooks m
  drops outlooks m = record { opens = refl; charged = refl; leaves = refl; dropped = refl }

  pub figures : Figures meaning entries
  unfolding computing tangents index
  figures = record {
    logarithm = (refl, refl);
    power = (refl, refl, refl);
    first_ac = (refl, refl);
    last_ac = (refl, refl);
    dc = (refl, refl);
    reach = (refl, refl, refl, refl);
    tangent = (refl, refl);
    opening = refl;
    report = λ outlooks m. refl;
    cap = λ outlooks m. (refl, refl);
    drops = drops;
    nothing_ahead = nothing_ahead meaning entries;
  }
