use Rattle.std.proofs.Common.{rules}
use borrow.Author.Tests.{tests}
use Rattle.aim.specs.Bounds.{near}
use Rattle.aim.proofs.bounds.near_previous.Goals as goal

pub returns : goal.returns
unfolding near
returns c = search (rules, tests)
