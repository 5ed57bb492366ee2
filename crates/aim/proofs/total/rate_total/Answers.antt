use Rattle.std.proofs.Common.{rules}
use Rattle.aim.specs.Totals.{rate_total}
use Rattle.aim.proofs.total.rate_total.Goals as goal

pub returns : goal.returns
unfolding rate_total
returns c = search rules
