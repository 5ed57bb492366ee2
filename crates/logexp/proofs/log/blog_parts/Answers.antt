use Rattle.std.proofs.Common.{arith}
use borrow.Author.Tests.{both_ways}
use Rattle.std.proofs.lemmas.Int.{ints}
use Rattle.logexp.proofs.LogTurns.{z_near, frac_by, fraction_in, parts_whole, parts_other}
use Rattle.logexp.proofs.PowerTest.{power_test}
use Rattle.logexp.proofs.log.blog_parts.Goals as goal

pub to_q57-requires : goal.to_q57-requires
to_q57-requires c = omega (arith, ints, z_near c.args.w c.requires.1.0 c.requires.1.1, c.log_turns.ensures)

pub overflow_add-result : goal.overflow_add-result
overflow_add-result c =
    let e = frac_by c.args.w c.log_turns.result c.to_q57.result c.requires.1.0 c.requires.1.1 c.log_turns.ensures c.to_q57.ensures in
    omega (arith, ints, fraction_in c.args.w c.requires.1.0 c.requires.1.1)

pub returns-then-is_power : goal.returns-then-is_power
returns-then-is_power c = omega (arith, ints, parts_whole c.args.ipart c.args.w ((power_test 61 c.args.w c.requires.1.0 c.requires.1.1).0 (c.is_power.ensures.0 c.if-is_power.true)))

pub returns-else-is_power : goal.returns-else-is_power
returns-else-is_power c =
    let e = frac_by c.args.w c.log_turns.result c.to_q57.result c.requires.1.0 c.requires.1.1 c.log_turns.ensures c.to_q57.ensures in
    omega (arith, ints, fraction_in c.args.w c.requires.1.0 c.requires.1.1, parts_other c.args.ipart c.args.w (λ e. both_ways _ c.if-is_power.false (c.is_power.ensures.1 ((power_test 61 c.args.w c.requires.1.0 c.requires.1.1).1 e))))
