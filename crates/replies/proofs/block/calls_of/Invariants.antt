use Rattle.std.proofs.Common.{◌≡◌, ◌++◌, drop, vec_items}
use Rattle.replies.specs.Blocks.{calls_of}
use Rattle.replies.proofs.block.calls_of.Given as goal

abbrev pub invariant-loop-line : goal.invariant-loop-line
invariant-loop-line l = vec_items l.calls ++ calls_of l.standing (drop l.line-index l.lines) ≡ calls_of l.initial.standing l.lines
