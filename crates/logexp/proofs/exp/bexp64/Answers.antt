use Rattle.std.proofs.Common.{◌≡◌, sym, arith, w64, to_z, of_z, rules}
use Rattle.std.proofs.lemmas.Int.{ints}
use Rattle.logexp.specs.LogExp.{bexp64}
use Rattle.logexp.proofs.ExpEnds.{bexp_low, bexp_top, bexp_by, shr_bits, whole_of}
use Rattle.logexp.proofs.ExactPowers.{exact_power}
use Rattle.logexp.proofs.ExpLaws.{power_band, positive}
use Rattle.logexp.proofs.exp.bexp64.Goals as goal

pub returns-then-ipart-lt0 : goal.returns-then-ipart-lt0
returns-then-ipart-lt0 c =
    let e = shr_bits c.args.x c.shr-ipart.result 57 c.ranges.x c.shr-ipart.ensures in
    let w = whole_of c.args.x in
    let v = sym (bexp_low c.args.x (omega (arith, ints))) in
    record {
      value = v;
      near = omega (arith, ints);
      below = λ h. omega (arith, ints);
      above = λ h. absurd (omega (arith, ints, w));
      exact = exact_power c.args.x _ v;
      band = power_band c.args.x _ v;
      positive = positive c.args.x _ v;
    }

pub returns-then-ipart-ge63 : goal.returns-then-ipart-ge63
returns-then-ipart-ge63 c =
    let e = shr_bits c.args.x c.shr-ipart.result 57 c.ranges.x c.shr-ipart.ensures in
    let w = whole_of c.args.x in
    let v = sym (bexp_top c.args.x (omega (arith, ints))) in
    record {
      value = v;
      near = omega (arith, ints);
      below = λ h. absurd (omega (arith, ints, w));
      above = λ h. omega (arith, ints);
      exact = exact_power c.args.x _ v;
      band = power_band c.args.x _ v;
      positive = positive c.args.x _ v;
    }

pub returns : goal.returns
returns c =
    let s = shr_bits c.args.x c.shr-ipart.result 57 c.ranges.x c.shr-ipart.ensures in
    let w = whole_of c.args.x in
    let e = bexp_by c.args.x c.shr-ipart.result c.scaled.result c.rounded.result c.ranges.x (search rules) (search rules) c.shr-ipart.ensures (omega (arith, ints)) (omega (arith, ints)) c.scaled.ensures.value c.rounded.ensures.value in
    let v : to_z w64 (of_z w64 c.rounded.result) ≡ bexp64 c.args.x = omega (arith, ints, e) in
    record {
      value = v;
      near = omega (arith, ints, c.rounded.ensures.near);
      below = λ h. absurd (omega (arith, ints, w));
      above = λ h. absurd (omega (arith, ints, w));
      exact = exact_power c.args.x _ v;
      band = power_band c.args.x _ v;
      positive = positive c.args.x _ v;
    }
