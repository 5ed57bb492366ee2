use Rattle.std.proofs.Common.{refl, arith}
use Rattle.logexp.specs.LogExp.{exp_turns}
use Rattle.logexp.proofs.ExpTurns.{exp_inv, exp_turns_more, exp_done}
use Rattle.logexp.proofs.exp.exp_turns.Goals as goal

pub exp_turn-e-requires : goal.exp_turn-e-requires
exp_turn-e-requires c = (c.loop-k-test.true, exp_inv c.args.z c.loop-k.k c.loop-k.e c.ranges.z c.requires c.loop-k.auto.k-end c.loop-k.invariant)

pub loop-k-preserved : goal.loop-k-preserved
loop-k-preserved c = exp_turns_more _ c.loop-k.k c.loop-k.e c.exp_turn-e.result c.loop-k.invariant c.exp_turn-e.ensures

pub loop-k-init : goal.loop-k-init
unfolding exp_turns
loop-k-init c = refl

pub returns : goal.returns
returns c =
    let d = exp_done c.args.z c.loop-k.k c.loop-k.e c.ranges.z c.requires (omega arith) c.loop-k.invariant in
    record { value = d.0; near = d.1 }
