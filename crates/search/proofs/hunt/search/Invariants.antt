-- The tries that are left find what 60 find from the start.
use Rattle.std.proofs.Common.{◌-◌}
use Rattle.search.specs.Predict.{forecast}
use Rattle.search.specs.Hunt.{hunt}
use Rattle.search.proofs.Turns.{Hunting}
use Rattle.search.proofs.hunt.search.Given as goal

abbrev pub invariant-loop-span : goal.invariant-loop-span
invariant-loop-span g l =
    Hunting (forecast g.M.BitModel.meaning l.model l.counts.kinds) l.total
    (hunt (forecast g.M.BitModel.meaning l.model l.counts.kinds) l.total 60 l.fn.ends.bottom l.fn.ends.top 0) l.span.lo l.span.hi l.span.tries

abbrev pub decreases-loop-span : goal.decreases-loop-span
decreases-loop-span g l = 60 - l.span.tries
