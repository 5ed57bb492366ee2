use Rattle.std.proofs.Common.{rules}
use Rattle.controller.specs.Choosing.{total}
use Rattle.controller.proofs.state.Core.total.Goals as goal

pub returns : goal.returns
unfolding total
returns c = search rules
