use Rattle.std.proofs.Common.{rules}
use borrow.Author.Tests.{tests}
use Rattle.aim.specs.Bounds.{under}
use Rattle.aim.proofs.bounds.Aim.under_highest.Goals as goal

pub returns : goal.returns
unfolding under
returns c = search (rules, tests)
