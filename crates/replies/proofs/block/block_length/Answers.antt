use Rattle.replies.proofs.Walks.{block_of}
use Rattle.replies.proofs.block.block_length.Goals as goal

pub returns-in-Some-clause-value : goal.returns-in-Some-clause-value
returns-in-Some-clause-value c = block_of _ _ _ _ _ c.in-Some.ensures.cases.0 c.next_opening.ensures c.unwrap_or.ensures
