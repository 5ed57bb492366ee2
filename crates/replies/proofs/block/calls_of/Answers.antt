use Rattle.replies.proofs.Walks.{calls_more, calls_all}
use Rattle.replies.proofs.block.calls_of.Goals as goal

pub loop-line-preserved : goal.loop-line-preserved
loop-line-preserved c =
    calls_more _ _ _ _ _ _ _ _ _ c.loop-line-test.true c.after-standing.ensures c.call_of.ensures c.in_ok-add_call.ensures c.loop-line.invariant

pub returns : goal.returns
returns c = calls_all _ _ _ _ _ c.loop-line-test.false c.loop-line.invariant
