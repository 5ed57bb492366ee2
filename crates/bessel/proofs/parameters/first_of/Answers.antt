-- The product stays in signed 64 bits.
use Rattle.std.proofs.Common.{◌≡◌, ℕ, ◌*◌, ◌^◌, ℤ, pos, ◌-ℤ◌, ◌*ℤ◌, arith, w64, to_z, of_z}
use Rattle.std.proofs.lemmas.Int.{ints}
use Rattle.bessel.specs.Parameters.{first}
use Rattle.bessel.proofs.Gains.{first_small}
use Rattle.bessel.proofs.parameters.first_of.Goals as goal

product : (a i : ℕ) (x z : ℤ) → x ≡ pos (2 * a) → z ≡ pos i -ℤ pos (2 ^ 24) → x *ℤ z ≡ first a i
product a i x z p q = cc

pub overflow_mul-result-2 : goal.overflow_mul-result-2
overflow_mul-result-2 c =
    let e = product c.args.a c.args.ik2 (to_z w64 (2 * c.args.a)) (to_z w64 (of_z w64 (to_z w64 c.args.ik2 -ℤ pos (2 ^ 24)))) (omega (arith, ints)) (omega (arith, ints)) in
    let s = first_small c.args.a c.args.ik2 c.requires.0 c.requires.1.1 in
    omega (arith, ints)

pub returns : goal.returns
returns c =
    let e = product c.args.a c.args.ik2 (to_z w64 (2 * c.args.a)) (to_z w64 (of_z w64 (to_z w64 c.args.ik2 -ℤ pos (2 ^ 24)))) (omega (arith, ints)) (omega (arith, ints)) in
    let s = first_small c.args.a c.args.ik2 c.requires.0 c.requires.1.1 in
    record { value = omega (arith, ints); small = omega (arith, ints) }
