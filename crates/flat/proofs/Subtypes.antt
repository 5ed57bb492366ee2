-- How far the log of a subtype can lie from 0.
use Rattle.std.proofs.Common.{◌≡◌, ◌+◌, ◌-◌, ◌^◌, ◌<◌, ℤ, pos, negsuc, ◌+ℤ◌, ◌*ℤ◌, neg_ℤ, ◌≤ℤ◌, ◌<ℤ◌, ap, arith}
use Rattle.std.specs.Int.{saturate_to_bits}
use Rattle.std.proofs.lemmas.Int.{ints}
use Rattle.logexp.specs.Held.{◌⊕◌, ◌≪◌, ◌≫◌}
use Rattle.flat.specs.declared.subtype.Subtype.{Subtype}
use Rattle.flat.specs.declared.subtype.Subtype.TheVariants.{I, P, B0, B1}
use Rattle.flat.specs.Flat.{distance, log_q_of, Near}

-- a figure that fits is held as it is
held_same : (v : ℤ) → neg_ℤ (pos (2 ^ 63)) ≤ℤ v → v <ℤ pos (2 ^ 63) → saturate_to_bits 63 v ≡ v
held_same (pos n) h g = let k : n < 2 ^ 63 = omega (arith, ints) in ap pos (omega arith)
held_same (negsuc n) h g = let k : n < 2 ^ 63 = omega (arith, ints) in ap negsuc (omega arith)

-- a figure and what it is held as, with bounds
pub bounded : (v low high : ℤ) → neg_ℤ (pos (2 ^ 63)) ≤ℤ low → high <ℤ pos (2 ^ 63) → low ≤ℤ v → v ≤ℤ high → (low ≤ℤ saturate_to_bits 63 v) × (saturate_to_bits 63 v ≤ℤ high)
bounded v low high h g l u = let e = held_same v (omega (arith, ints)) (omega (arith, ints)) in rw e (l, u)

in_steps : (v : ℤ) → neg_ℤ (pos (2 ^ 60)) ≤ℤ v → v ≤ℤ pos (2 ^ 60 + 2 ^ 11) → (neg_ℤ (pos (2 ^ 48)) ≤ℤ (v ≫ 12)) × ((v ≫ 12) ≤ℤ pos (2 ^ 48))
in_steps (pos n) h g = (omega (arith, ints), omega (arith, ints))
in_steps (negsuc n) h g = (omega (arith, ints), omega (arith, ints))

-- no subtype lies more than a doubling from the base
near : (s : Subtype) → (neg_ℤ (pos (2 ^ 57)) ≤ℤ distance s) × (distance s ≤ℤ pos (2 ^ 57))
near I = (omega (arith, ints), omega (arith, ints))
near P = (omega (arith, ints), omega (arith, ints))
near B0 = (omega (arith, ints), omega (arith, ints))
near B1 = (omega (arith, ints), omega (arith, ints))

-- of a base within 8 doublings of 0, within 16
pub log_q_near : (s : Subtype) (b : ℤ) → Near 8 b → Near 16 (log_q_of s b)
unfolding log_q_of
log_q_near s b h =
    let low = h.least in
    let high = h.most in
    let m = bounded (b +ℤ pos (2 ^ 11)) (neg_ℤ (pos (2 ^ 60))) (pos (2 ^ 60 + 2 ^ 11)) (omega (arith, ints)) (omega (arith, ints)) (omega (arith, ints)) (omega (arith, ints)) in
    let i = in_steps (b ⊕ pos (2 ^ 11)) m.0 m.1 in
    let k = bounded (((b ⊕ pos (2 ^ 11)) ≫ 12) *ℤ pos (2 ^ 12)) (neg_ℤ (pos (2 ^ 60))) (pos (2 ^ 60)) (omega (arith, ints)) (omega (arith, ints)) (omega (arith, ints)) (omega (arith, ints)) in
    let n = near s in
    let o = bounded (((b ⊕ pos (2 ^ 11)) ≫ 12 ≪ 12) +ℤ distance s) (neg_ℤ (pos (2 ^ 61 - 1))) (pos (2 ^ 61 - 1)) (omega (arith, ints)) (omega (arith, ints)) (omega (arith, ints)) (omega (arith, ints)) in
    record { least = omega (arith, ints); most = omega (arith, ints) }
