use Rattle.std.proofs.Common.{◌≡◌, [], ◌++◌, length, vec_items}
use Rattle.replies.specs.Blocks.{at_first}
use Rattle.replies.specs.Played.{played}
use Rattle.replies.proofs.playing.play.Given as goal

abbrev pub invariant-loop-rest : goal.invariant-loop-rest
invariant-loop-rest g l = vec_items l.replies ++ played (g.R.Runner.answers l.runner) l.standing [] l.rest ≡ played (g.R.Runner.answers l.runner) at_first [] l.initial.rest

abbrev pub decreases-loop-rest : goal.decreases-loop-rest
decreases-loop-rest g l = length l.rest
