use Rattle.std.proofs.Common.{◌≡◌, pos, arith, rules}
use Rattle.std.proofs.lemmas.Int.{ints}
use Rattle.logexp.specs.Cordic.{step, atanh, along}
use Rattle.logexp.proofs.ExpTurns.{turned_by, left_small, turned_small, turned_once, turned_twice}
use Rattle.logexp.proofs.turns.turned.Goals as goal
use Rattle.logexp.proofs.turns.turned.Goals.{After-along}

-- what is taken from z
taken : (c : goal.After-along) → c.along.result ≡ along c.args.z (pos (atanh (step c.args.k)))
taken c =
    turned_by c.args.k c.step_of-i.result c.args.z c.atanh_at.result c.along.result c.ranges.z
    c.step_of-i.ensures.value c.atanh_at.ensures c.along.ensures

pub overflow_sub-left : goal.overflow_sub-left
overflow_sub-left c = omega (arith, ints, taken c, left_small c.args.k c.args.z (search rules) (search rules))

pub overflow_mul-result : goal.overflow_mul-result
overflow_mul-result c =
    omega (arith, ints, taken (goal.at.overflow_mul-result c).After-along, left_small c.args.k c.args.z (search rules) (search rules), turned_small c.args.k c.args.z (search rules) (search rules), turned_twice c.args.k c.args.z (search rules))

pub returns-then-step_of-i : goal.returns-then-step_of-i
returns-then-step_of-i c =
    omega (arith, ints, taken (goal.at.returns-then-step_of-i c).After-along, left_small c.args.k c.args.z (search rules) (search rules), turned_once c.args.k c.args.z (search rules))

pub returns-else-step_of-i : goal.returns-else-step_of-i
returns-else-step_of-i c =
    omega (arith, ints, taken (goal.at.returns-else-step_of-i c).After-along, left_small c.args.k c.args.z (search rules) (search rules), turned_small c.args.k c.args.z (search rules) (search rules), turned_twice c.args.k c.args.z (search rules))
