-- With parameters in range, the sums of a step stay far within 64 bits.
use Rattle.std.proofs.Common.{◌≡◌, ℕ, ◌+◌, ◌*◌, ◌^◌, ◌<◌, ◌≤◌, ℤ, pos, negsuc, ◌+ℤ◌, ◌*ℤ◌, nat_abs, refl, mul-le-mul, arith}
use Rattle.std.proofs.lemmas.Int.{ints}
use Rattle.logexp.specs.Held.{held, ◌⊕◌, ◌⊗◌}
use Rattle.bessel.specs.Laws.{NeverHeld}

held_as : (a : ℤ) → nat_abs a < 2 ^ 63 → held a ≡ a
held_as (pos n) h = omega (arith, ints)
held_as (negsuc n) h = omega (arith, ints)

abs_product : (a b : ℤ) → nat_abs (a *ℤ b) ≡ nat_abs a * nat_abs b
abs_product (pos n) (pos m) = refl
abs_product (pos n) (negsuc m) = omega (arith, ints)
abs_product (negsuc n) (pos m) = omega (arith, ints)
abs_product (negsuc n) (negsuc m) = omega (arith, ints)

times_in : (a b : ℤ) (n m : ℕ) → nat_abs a ≤ n → nat_abs b ≤ m → nat_abs (a *ℤ b) ≤ n * m
times_in a b n m h g = rw (abs_product a b) (mul-le-mul h g)

sum_in : (a b : ℤ) → nat_abs (a +ℤ b) ≤ nat_abs a + nat_abs b
sum_in a b = omega (arith, ints)

pub never_held : NeverHeld
never_held x x0 x1 y0 y1 p h h0 h1 k0 k1 r =
    let c0 = p.c0 in
    let c1 = p.c1 in
    let g = p.g in
    let t0 = times_in x0 (pos 2) (2 ^ 31) 2 h0 (omega arith) in
    let e0 : x0 ⊗ pos 2 ≡ x0 *ℤ pos 2 = held_as (x0 *ℤ pos 2) (omega arith) in
    let s0 = sum_in x (x0 *ℤ pos 2) in
    let e1 : x ⊕ x0 *ℤ pos 2 ≡ x +ℤ x0 *ℤ pos 2 = held_as (x +ℤ x0 *ℤ pos 2) (omega arith) in
    let s1 = sum_in (x +ℤ x0 *ℤ pos 2) x1 in
    let e2 : (x +ℤ x0 *ℤ pos 2) ⊕ x1 ≡ (x +ℤ x0 *ℤ pos 2) +ℤ x1 = held_as _ (omega arith) in
    let i = (x +ℤ x0 *ℤ pos 2) +ℤ x1 in
    let t1 = times_in i g (2 ^ 33) (2 ^ 24) (omega arith) r.2 in
    let e3 : i ⊗ g ≡ i *ℤ g = held_as (i *ℤ g) (omega arith) in
    let t2 = times_in y0 c0 (2 ^ 31) (2 ^ 25) k0 r.0 in
    let e4 : y0 ⊗ c0 ≡ y0 *ℤ c0 = held_as (y0 *ℤ c0) (omega arith) in
    let t3 = times_in y1 c1 (2 ^ 31) (5 * 2 ^ 24) k1 r.1 in
    let e5 : y1 ⊗ c1 ≡ y1 *ℤ c1 = held_as (y1 *ℤ c1) (omega arith) in
    let s2 = sum_in (i *ℤ g) (y0 *ℤ c0) in
    let e6 : i *ℤ g ⊕ y0 *ℤ c0 ≡ i *ℤ g +ℤ y0 *ℤ c0 = held_as _ (omega arith) in
    let s3 = sum_in (i *ℤ g +ℤ y0 *ℤ c0) (y1 *ℤ c1) in
    let e7 : (i *ℤ g +ℤ y0 *ℤ c0) ⊕ y1 *ℤ c1 ≡ (i *ℤ g +ℤ y0 *ℤ c0) +ℤ y1 *ℤ c1 = held_as _ (omega arith) in
    let s4 = sum_in ((i *ℤ g +ℤ y0 *ℤ c0) +ℤ y1 *ℤ c1) (pos (2 ^ 23)) in
    let e8 : ((i *ℤ g +ℤ y0 *ℤ c0) +ℤ y1 *ℤ c1) ⊕ pos (2 ^ 23) ≡ ((i *ℤ g +ℤ y0 *ℤ c0) +ℤ y1 *ℤ c1) +ℤ pos (2 ^ 23) = held_as _ (omega (arith, ints)) in
    rw (e0, e1, e2, e3, e4, e6, e5, e7) e8
