use Rattle.std.proofs.Common.{sym, refl, arith, w64, SFits, rules}
use Rattle.std.proofs.lemmas.Int.{ints, to_z-of_z}
use Rattle.logexp.specs.LogExp.{tail_turns}
use Rattle.logexp.proofs.ExpTurns.{tail_none, tail_inv, tail_again, tail_done, same_tail, lo_small}
use Rattle.logexp.proofs.exp.tail_of.Goals as goal

pub returns-then-ipart-le30 : goal.returns-then-ipart-le30
returns-then-ipart-le30 c =
    record { value = sym (tail_none c.args.ipart c.args.e c.if-ipart-le30.true); near = omega (arith, ints) }

pub tail_turn-t-requires : goal.tail_turn-t-requires
tail_turn-t-requires c = (c.loop-k-test.true, tail_inv c.args.e c.loop-k.k c.loop-k.t (search rules) c.loop-k.auto.k-end c.requires c.loop-k.invariant)

pub loop-k-init : goal.loop-k-init
unfolding tail_turns
loop-k-init c = same_tail _ _ refl (to_z-of_z w64 c.args.e.z (search rules))

pub loop-k-preserved : goal.loop-k-preserved
loop-k-preserved c = tail_again c.args.e c.loop-k.k c.loop-k.t c.tail_turn-t.result (search rules) c.loop-k.invariant c.tail_turn-t.ensures

pub returns : goal.returns
returns c =
    let f : SFits w64 c.args.e.w = search rules in
    let g : SFits w64 c.loop-k.t.lo = search rules in
    let d = tail_done c.args.ipart c.loop-k.k c.args.e c.loop-k.t c.if-ipart-le30.false (omega arith) c.loop-k.invariant in
    let s = lo_small _ c.loop-k.k c.loop-k.t c.loop-k.auto.k-end (tail_inv c.args.e c.loop-k.k c.loop-k.t f c.loop-k.auto.k-end c.requires c.loop-k.invariant) in
    record { value = omega (arith, ints); near = omega (arith, ints, c.requires.w_least) }
