use Rattle.std.proofs.Common.{length, ◌∙◌}
use Rattle.scripts.proofs.Adding.{rows_right}
use Rattle.scripts.proofs.script.rows_of.Goals as goal

pub returns : goal.returns
returns c = let whole = rw c.unwrap.ensures at c.try_from.ensures.1 in whole.same ∙ c.as_chunks.ensures.front ∙ rows_right c.args.counts.now (length c.args.counts.now) c.requires
