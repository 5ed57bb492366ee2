use Rattle.std.proofs.Common.{ℕ, suc, ◌+◌, ap, arith, rules}
use Rattle.std.proofs.lemmas.Int.{ints}
use Rattle.logexp.specs.LogExp.{exp_turn}
use Rattle.logexp.proofs.ExpTurns.{along_of, turned_bits, same_exp, w_next, w_bound_small}
use Rattle.logexp.proofs.exp.exp_turn.Goals as goal

pub overflow_add-result : goal.overflow_add-result
overflow_add-result c =
    let e = along_of c.args.e.z c.args.e.w c.shr.result c.along.result _ _ (search rules) (search rules) (search rules) (ap (λ (i : ℕ). i + 1) c.step_of.ensures.value) c.shr.ensures c.along.ensures in
    omega (arith, ints, w_next c.args.k c.args.e (search rules) (search rules), w_bound_small (suc c.args.k) (search rules))

pub returns : goal.returns
unfolding exp_turn
returns c =
    let e = along_of c.args.e.z c.args.e.w c.shr.result c.along.result _ _ (search rules) (search rules) (search rules) (ap (λ (i : ℕ). i + 1) c.step_of.ensures.value) c.shr.ensures c.along.ensures in
    let t = turned_bits c.args.k c.args.e.z c.turned.result (search rules) c.turned.ensures in
    same_exp _ _
    (omega (arith, ints, w_next c.args.k c.args.e (search rules) (search rules), w_bound_small (suc c.args.k) (search rules)))
    (omega (arith, ints))
