-- The parameters from their steps, each within its bounds.
use Rattle.std.proofs.Common.{◌≡◌, ◌+◌, ◌/◌, ◌^◌, ◌≤◌, pos, nat_abs, arith, w32, w64, SFits, to_z, of_z, rules}
use Rattle.std.proofs.lemmas.Int.{ints, to_z-of_z}
use Rattle.bessel.proofs.Gains.{square_in, parameters_by, in_range_by, balanced_by}
use Rattle.bessel.proofs.parameters.iir_bessel2_get_parameters.Goals as goal

pub returns : goal.returns
returns c =
    let f1 : SFits w64 c.first_of-b1.result = search rules in
    let f2 : SFits w64 c.second_of.result = search rules in
    let f3 : SFits w32 c.rounded.result = search rules in
    let f4 : SFits w32 c.rounded-2.result = search rules in
    let h1 = simp to_z-of_z at c.rounded.ensures.value in
    let h2 = simp to_z-of_z at c.second_of.ensures.value in
    let h3 = simp to_z-of_z at c.rounded-2.ensures.value in
    let t1 = to_z-of_z w32 c.rounded.result f3 in
    let t2 = to_z-of_z w32 c.rounded-2.result f4 in
    let t3 : to_z w32 ((c.gain-a.result + 128) / 256) ≡ pos ((c.gain-a.result + 128) / 2 ^ 8) = omega (arith, ints) in
    let n1 : nat_abs (to_z w64 (of_z w64 c.first_of-b1.result)) ≤ 2 ^ 57 = omega (arith, ints) in
    record {
      value =
          parameters_by c.args.delay c.delay_tangent-warp.result c.gain-a.result c.first_of-b1.result c.second_of.result
          c.rounded.result c.rounded-2.result _ _ _
          c.delay_tangent-warp.ensures.value c.gain-a.ensures.value c.first_of-b1.ensures.value h1 h2 h3 t1 t2 t3;
      range =
          in_range_by c.gain-a.result c.rounded.result c.rounded-2.result _ _ _ c.gain-a.ensures.small
          (c.rounded.ensures.first n1) c.rounded-2.ensures.second t1 t2 t3;
      balance =
          balanced_by c.gain-a.result c.first_of-b1.result c.second_of.result c.rounded.result c.rounded-2.result _ _ _ h1 h2 h3 t1 t2 t3;
    }
