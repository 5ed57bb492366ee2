use Rattle.std.proofs.Common.{◌≡◌, ◌++◌, drop, vec_items}
use Rattle.std.specs.Slice.Iter.{iter_rest}
use Rattle.replies.specs.Replied.{replies_of}
use Rattle.replies.proofs.block.replies_of.Given as goal

abbrev pub invariant-loop-line : goal.invariant-loop-line
invariant-loop-line l = vec_items l.replies ++ replies_of (drop l.line-index l.lines) (iter_rest l.left) ≡ replies_of l.lines l.answers
