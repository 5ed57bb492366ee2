use Rattle.std.proofs.Common.{suc, arith, rules}
use Rattle.std.proofs.lemmas.Int.{ints}
use Rattle.logexp.specs.LogExp.{tail_turn}
use Rattle.logexp.proofs.ExpTurns.{along_of, turned_bits, same_tail, tail_next, lo_small}
use Rattle.logexp.proofs.exp.tail_turn.Goals as goal

pub overflow_add-result : goal.overflow_add-result
unfolding tail_turn
overflow_add-result c =
    let e = along_of c.args.t.z c.args.w c.shr.result c.along.result _ _ (search rules) (search rules) (search rules) c.step_of.ensures.value c.shr.ensures c.along.ensures in
    omega (arith, ints, lo_small c.args.w (suc c.args.k) _ (search rules) (tail_next c.args.w c.args.k c.args.t (search rules) (search rules)))

pub returns : goal.returns
unfolding tail_turn
returns c =
    let e = along_of c.args.t.z c.args.w c.shr.result c.along.result _ _ (search rules) (search rules) (search rules) c.step_of.ensures.value c.shr.ensures c.along.ensures in
    let t = turned_bits _ c.args.t.z c.turned.result (search rules) c.turned.ensures in
    same_tail _ _
    (omega (arith, ints, lo_small c.args.w (suc c.args.k) _ (search rules) (tail_next c.args.w c.args.k c.args.t (search rules) (search rules))))
    (omega (arith, ints))
