-- The remainder by 2^32, read as signed, is the low 32 bits.
use Rattle.std.proofs.Common.{◌≡◌, ℤ, pos, nat_abs, w32, w64, SFits, to_z, of_z, rules}
use Rattle.std.specs.Int.{int_rem_euclid, int_wrap}
use Rattle.std.proofs.lemmas.Int.{to_z-of_z}
use Rattle.bessel.proofs.follower.low_bits.Goals as goal

kept : (v m r : ℤ) → SFits w64 v → SFits w64 m → SFits w32 r → m ≡ int_rem_euclid (to_z w64 (of_z w64 v)) (pos 4294967296) → r ≡ to_z w32 (nat_abs (to_z w64 (of_z w64 m))) → to_z w32 (of_z w32 r) ≡ int_wrap w32 v
unfolding int_wrap
kept v m r f g h p q =
    let a = to_z-of_z w64 v f in
    let b = to_z-of_z w64 m g in
    let d = to_z-of_z w32 r h in
    cc

pub returns : goal.returns
returns c = kept c.args.v c.rem_euclid.result c.cast_signed.result c.ranges.v (search rules) (search rules) c.rem_euclid.ensures.value c.cast_signed.ensures
