use Rattle.std.proofs.Common.{arith, rules}
use Rattle.std.proofs.lemmas.Int.{to_z-of_z}
use Rattle.quantize.proofs.Reaching.{whole}
use Rattle.quantize.proofs.answer.QuantizerParameters.of.Goals as goal

pub returns-then-is_monochrome : goal.returns-then-is_monochrome
returns-then-is_monochrome c =
    let p = whole c.args.log_base_q c.args.log_target_q c.args.depth c.args.sampling c.args.is_intra c.args.log_isqrt_mean_scale _ (search rules) (search rules) (grind (arith, to_z-of_z)) (grind (arith, to_z-of_z)) (grind (arith, to_z-of_z)) (grind (arith, to_z-of_z)) in
    record { value = p.0; lawful = p.1 }

pub returns : goal.returns
returns c =
    let p = whole c.args.log_base_q c.args.log_target_q c.args.depth c.args.sampling c.args.is_intra c.args.log_isqrt_mean_scale _ (search rules) (search rules) (grind (arith, to_z-of_z)) (grind (arith, to_z-of_z)) (grind (arith, to_z-of_z)) (grind (arith, to_z-of_z)) in
    record { value = p.0; lawful = p.1 }
