use Rattle.logexp.proofs.Octaves.{octave_kept}
use Rattle.logexp.proofs.laws.octaves_stand.Goals as goal

pub returns : goal.returns
returns c = octave_kept
