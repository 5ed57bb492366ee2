use Rattle.std.proofs.Common.{ℕ, suc, ◌+◌, ap, arith, w64, SFits, rules}
use Rattle.std.proofs.lemmas.Int.{ints}
use Rattle.logexp.specs.LogExp.{log_turn}
use Rattle.logexp.proofs.ExpTurns.{along_of}
use Rattle.logexp.proofs.ExpEnds.{shr_bits, shr_least}
use Rattle.logexp.proofs.LogTurns.{log_next, log_z_by, x_fall_small, log_bound_small, x_positive, same_log}
use Rattle.logexp.proofs.log.log_turn.Goals as goal

pub overflow_sub-x : goal.overflow_sub-x
unfolding log_turn
overflow_sub-x c =
    let e = along_of c.args.l.y c.args.l.y c.shr.result c.along.result _ _ (search rules) (search rules) (search rules) (ap (λ (i : ℕ). i + 1) c.step_of-i.ensures.value) c.shr.ensures c.along.ensures in
    let n = log_next c.args.k c.args.l c.requires.0 c.requires.1 in
    omega (arith, ints, n.x_least, n.x_most, x_fall_small (suc c.args.k) (search rules))

pub along-requires-2 : goal.along-requires-2
along-requires-2 c =
    let f : SFits w64 c.args.l.x = search rules in
    let e = shr_bits c.args.l.x c.shr-2.result _ f c.shr-2.ensures in
    omega (arith, ints, shr_least c.args.l.x (c.step_of-i.result + 1) (x_positive c.args.k c.args.l (search rules) c.requires.1))

pub overflow_sub-y : goal.overflow_sub-y
unfolding log_turn
overflow_sub-y c =
    let e = along_of c.args.l.y c.args.l.x c.shr-2.result c.along-2.result _ _ (search rules) (search rules) (search rules) (ap (λ (i : ℕ). i + 1) c.step_of-i.ensures.value) c.shr-2.ensures c.along-2.ensures in
    let n = log_next c.args.k c.args.l c.requires.0 c.requires.1 in
    omega (arith, ints, n.y_in)

pub overflow_add-z : goal.overflow_add-z
unfolding log_turn
overflow_add-z c =
    let e = log_z_by c.args.k c.step_of-i.result c.args.l.y c.atanh_at.result c.shr-3.result c.along-3.result (search rules) (search rules) c.step_of-i.ensures.value c.atanh_at.ensures c.shr-3.ensures c.along-3.ensures in
    let n = log_next c.args.k c.args.l c.requires.0 c.requires.1 in
    omega (arith, ints, n.z_in, log_bound_small (suc c.args.k) (search rules))

pub returns : goal.returns
unfolding log_turn
returns c =
    let ex = along_of c.args.l.y c.args.l.y c.shr.result c.along.result _ _ (search rules) (search rules) (search rules) (ap (λ (i : ℕ). i + 1) c.step_of-i.ensures.value) c.shr.ensures c.along.ensures in
    let ey = along_of c.args.l.y c.args.l.x c.shr-2.result c.along-2.result _ _ (search rules) (search rules) (search rules) (ap (λ (i : ℕ). i + 1) c.step_of-i.ensures.value) c.shr-2.ensures c.along-2.ensures in
    let ez = log_z_by c.args.k c.step_of-i.result c.args.l.y c.atanh_at.result c.shr-3.result c.along-3.result (search rules) (search rules) c.step_of-i.ensures.value c.atanh_at.ensures c.shr-3.ensures c.along-3.ensures in
    let n = log_next c.args.k c.args.l c.requires.0 c.requires.1 in
    same_log _ _
    (omega (arith, ints, ex, n.x_least, n.x_most, x_fall_small (suc c.args.k) (search rules)))
    (omega (arith, ints, ey, n.y_in))
    (omega (arith, ints, ez, n.z_in, log_bound_small (suc c.args.k) (search rules)))
