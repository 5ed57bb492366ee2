use Rattle.replies.proofs.Walks.{replies_more, replies_all}
use Rattle.replies.proofs.block.replies_of.Goals as goal

pub loop-line-preserved : goal.loop-line-preserved
loop-line-preserved c =
    replies_more _ _ _ _ _ _ _ _ _ _ c.loop-line-test.true c.reply_to.ensures c.next_answer-answer.ensures.value c.next_answer-answer.ensures.left c.in_ok-push.ensures.items c.loop-line.invariant

pub returns : goal.returns
returns c = replies_all _ _ _ _ _ c.loop-line-test.false c.loop-line.invariant
