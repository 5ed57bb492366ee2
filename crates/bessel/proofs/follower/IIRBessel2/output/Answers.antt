-- The output from its steps; a number that is passed on goes to its bits and back.
use Rattle.std.proofs.Common.{◌≡◌, get_or, ℤ, pos, ◌∙◌, w32, w64, SFits, rules}
use lib.Signed.{shr_z}
use Rattle.std.proofs.lemmas.Int.{to_z-of_z}
use Rattle.bessel.specs.Follow.{inputs, weighed, smoothed}
use Rattle.logexp.specs.Held.{◌≫◌}
use Rattle.bessel.specs.declared.follower.IIRBessel2.{IIRBessel2}
use Rattle.std.specs.Int.{int_wrap}
use Rattle.bessel.proofs.follower.IIRBessel2.output.Goals as goal

joined : (f : IIRBessel2) (x i s r : ℤ)
    → i ≡ inputs x (get_or f.x 0 (pos 0)) (get_or f.x 1 (pos 0))
    → s ≡ weighed f.parameters i (get_or f.y 0 (pos 0)) (get_or f.y 1 (pos 0))
    → r ≡ int_wrap w32 (s ≫ 24) → r ≡ smoothed f x
unfolding smoothed
joined f x i s r p q h = cc

pub returns : goal.returns
returns c =
    let f1 : SFits w32 (get_or c.args.self.now.x 0 (pos 0)) = search rules in
    let f2 : SFits w32 (get_or c.args.self.now.x 1 (pos 0)) = search rules in
    let f3 : SFits w32 (get_or c.args.self.now.y 0 (pos 0)) = search rules in
    let f4 : SFits w32 (get_or c.args.self.now.y 1 (pos 0)) = search rules in
    let f8 : SFits w32 c.args.x = c.ranges.x in
    let f9 : SFits w64 c.inputs.result = search rules in
    let f10 : SFits w64 c.weighed-sum.result = search rules in
    let f11 : SFits w64 (shr_z c.weighed-sum.result 16777216) = search rules in
    let f12 : SFits w32 c.low_bits.result = search rules in
    let h = simp to_z-of_z at c.low_bits.ensures in
    let g = simp to_z-of_z at c.weighed-sum.ensures in
    let i = simp to_z-of_z at c.inputs.ensures in
    to_z-of_z w32 c.low_bits.result f12 ∙ joined c.args.self.now c.args.x c.inputs.result c.weighed-sum.result c.low_bits.result i g h
