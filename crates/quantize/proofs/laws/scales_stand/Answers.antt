use Rattle.quantize.proofs.Quotients.{nothing_rounded}
use Rattle.quantize.proofs.laws.scales_stand.Goals as goal

pub returns : goal.returns
returns c = nothing_rounded
