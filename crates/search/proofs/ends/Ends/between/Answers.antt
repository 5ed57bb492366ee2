use Rattle.std.proofs.Common.{◌≡◌, ℕ, ◌^◌, ◌<◌, min, max, ℤ, pos, neg_ℤ, ◌≤ℤ◌, ◌<ℤ◌, arith, w64, SFits, to_z, of_z, rules}
use Rattle.std.proofs.lemmas.Int.{to_z-of_z}
use Rattle.flat.specs.Flat.{ac_log, Ordered}
use Rattle.search.proofs.ends.Ends.between.Goals as goal

-- logs that never fall and lie within 8 doublings of 0, read through their bits
between_is : (log : ℕ → ℤ) (a b i j : ℕ) (x y : ℤ) → Ordered log → i ≡ min a b → j ≡ max a b → a < 256 → b < 256 → SFits w64 x → SFits w64 y → x ≡ log i → y ≡ log j
    → (neg_ℤ (pos (2 ^ 60)) <ℤ to_z w64 (of_z w64 x)) × ((to_z w64 (of_z w64 y) <ℤ pos (2 ^ 60)) × (to_z w64 (of_z w64 x) ≤ℤ to_z w64 (of_z w64 y)))
between_is log a b i j x y o ei ej la lb fx fy ex ey =
    let zx = to_z-of_z w64 x fx in
    let zy = to_z-of_z w64 y fy in
    let nx = o.near i (omega arith) in
    let ny = o.near j (omega arith) in
    let r = o.rises i j (omega arith) (omega arith) in
    rw (zx, zy, ex, ey) (nx.least, (ny.most, r))

pub invariant_of-result : goal.invariant_of-result
invariant_of-result c =
    let fx : SFits w64 c.ac_log.result = search rules in
    let fy : SFits w64 c.ac_log-2.result = search rules in
    let e = between_is (λ i. ac_log i c.args.depth) c.args.a c.args.b c.min.result c.max.result c.ac_log.result c.ac_log-2.result (c.logs_stand.ensures c.args.depth).0 c.min.ensures c.max.ensures (omega arith) (omega arith) fx fy c.ac_log.ensures.value c.ac_log-2.ensures.value in
    record { low = e.0; high = e.1.0; order = e.1.1 }
