use Rattle.std.proofs.Common.{refl, arith}
use Rattle.std.proofs.lemmas.Int.{ints}
use Rattle.logexp.specs.LogExp.{log_turns}
use Rattle.logexp.proofs.LogTurns.{log_turns_more, log_inv, same_log}
use Rattle.logexp.proofs.log.log_turns.Goals as goal

pub loop-k-init : goal.loop-k-init
unfolding log_turns
loop-k-init c = same_log _ _ (omega (arith, ints)) (omega (arith, ints)) refl

pub log_turn-l-requires : goal.log_turn-l-requires
log_turn-l-requires c = (c.loop-k-test.true, log_inv c.args.w c.loop-k.k c.loop-k.l c.requires.0 c.requires.1 c.loop-k.auto.k-end c.loop-k.invariant)

pub loop-k-preserved : goal.loop-k-preserved
loop-k-preserved c = log_turns_more c.args.w c.loop-k.k c.loop-k.l c.log_turn-l.result c.loop-k.invariant c.log_turn-l.ensures
