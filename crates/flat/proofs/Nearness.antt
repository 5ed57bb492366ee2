-- The logs of table entries lie within 8 doublings of 0. Below the top octave of its table an entry is small
-- enough by itself; the logs of the 114 entries above it are computed.
use Rattle.std.proofs.Common.{◌≡◌, ℕ, zero, suc, ◌+◌, ◌*◌, ◌^◌, ◌<◌, Bool, true, false, ◌&&◌, ◌||◌, ltb, ◌⊎◌, List, [], ◌∷◌, get_or, ℤ, pos, negsuc, ◌+ℤ◌, ◌-ℤ◌, neg_ℤ, ◌≤ℤ◌, ◌<ℤ◌, sym, refl, ap, ◌∙◌, subst, inl, inr, arith}
use lib.Signed.{lt_z}
use Rattle.std.proofs.lemmas.Int.{ints}
use Rattle.std.proofs.lemmas.Bool.{and_parts, ltb-true}
use Rattle.logexp.specs.Held.{◌⊕◌, ◌⊖◌, ◌≫◌}
use Rattle.logexp.specs.LogExp.{blog64, computing}
use Rattle.tables.specs.Depths.{dc_table, ac_table, doublings, depth_log}
use Rattle.tables.specs.declared.depth.Depth.{Depth}
use Rattle.tables.specs.declared.depth.Depth.TheVariants.{Eight, Ten, Twelve}
use Rattle.flat.specs.Flat.{log_under, middle, Near}
use Rattle.flat.proofs.Subtypes.{bounded}

abbrev every : (ℕ → Bool) → List ℕ → Bool
every f [] = true
every f (x ∷ xs) = f x && every f xs

-- what holds of every entry of a table, and of 0, holds at every index
at : (f : ℕ → Bool) (xs : List ℕ) → f 0 ≡ true → every f xs ≡ true → (i : ℕ) → f (get_or xs i 0) ≡ true
at f [] z h i = z
at f (x ∷ xs) z h zero = (and_parts (f x) (every f xs) h).0
at f (x ∷ xs) z h (suc i) = at f xs z (and_parts (f x) (every f xs) h).1 i

ac_every : (d : Depth) → every (log_under d) (ac_table d) ≡ true
unfolding computing log_under ac_table
ac_every Eight = refl
ac_every Ten = refl
ac_every Twelve = refl

dc_every : (d : Depth) → every (log_under d) (dc_table d) ≡ true
unfolding computing log_under dc_table
dc_every Eight = refl
dc_every Ten = refl
dc_every Twelve = refl

none_under : (d : Depth) → log_under d 0 ≡ true
unfolding log_under
none_under Eight = refl
none_under Ten = refl
none_under Twelve = refl

pub ac_under : (d : Depth) (i : ℕ) → log_under d (get_or (ac_table d) i 0) ≡ true
ac_under d i = at (log_under d) (ac_table d) (none_under d) (ac_every d) i

pub dc_under : (d : Depth) (i : ℕ) → log_under d (get_or (dc_table d) i 0) ≡ true
dc_under d i = at (log_under d) (dc_table d) (none_under d) (dc_every d) i

-- the logarithm of a number below 2^m stays below m + 1 doublings
abbrev pub Most : ℕ → ℤ → Type 0
Most entry b = (m : ℕ) → pos entry <ℤ pos (2 ^ m) → b <ℤ pos ((m + 1) * 2 ^ 57)

either : (a b : Bool) → (a || b) ≡ true → (a ≡ true) ⊎ (b ≡ true)
either true b h = inl refl
either false b h = inr h

tested : (a b : ℤ) → lt_z a b ≡ true → a <ℤ b
tested a b t = grind (arith, ints)

under : (entry n : ℕ) (b : ℤ) → b ≡ blog64 (pos entry) → Most entry b → (ltb entry (2 ^ n) || lt_z (blog64 (pos entry)) (doublings (n + 1))) ≡ true → b <ℤ doublings (n + 1)
under entry n b e most h =
    elim (either (ltb entry (2 ^ n)) (lt_z (blog64 (pos entry)) (doublings (n + 1))) h) [
      | inl t ↦ let l = ltb-true entry (2 ^ n) t in most n (omega (arith, ints))
      | inr t ↦ rw e (tested (blog64 (pos entry)) (doublings (n + 1)) t)
    ]

held_near : (b : ℤ) (k : ℕ) → k < 8 → negsuc 0 ≤ℤ b → b <ℤ doublings (k + 8) → Near 8 (b ⊖ doublings k)
held_near b k l low high =
    let v = bounded (b -ℤ doublings k) (neg_ℤ (doublings 8) +ℤ pos 1) (doublings 8 -ℤ pos 1) (omega (arith, ints)) (omega (arith, ints)) (omega (arith, ints)) (omega (arith, ints)) in
    record { least = omega (arith, ints); most = omega (arith, ints) }

depth_near : (d : Depth) (entry : ℕ) (b : ℤ) → b ≡ blog64 (pos entry) → negsuc 0 ≤ℤ b → Most entry b → log_under d entry ≡ true → Near 8 (b ⊖ depth_log d)
unfolding log_under
depth_near Eight entry b e low most h = held_near b 3 (omega arith) low (under entry 10 b e most h)
depth_near Ten entry b e low most h = held_near b 5 (omega arith) low (under entry 12 b e most h)
depth_near Twelve entry b e low most h = held_near b 7 (omega arith) low (under entry 14 b e most h)

least : (n : ℕ) (b : ℤ) → (pos n <ℤ pos 1 → b ≡ negsuc 0) → (pos 1 ≤ℤ pos n → pos 0 ≤ℤ b) → negsuc 0 ≤ℤ b
least zero b none positive = rw (none (omega (arith, ints))) (omega (arith, ints))
least (suc n) b none positive = let p = positive (omega (arith, ints)) in omega (arith, ints)

-- the log of an entry at its depth, by the laws of the logarithm b of n
pub entry_near : (d : Depth) (entry : ℕ) (n b : ℤ) → n ≡ pos entry → b ≡ blog64 n → (n <ℤ pos 1 → b ≡ negsuc 0) → (pos 1 ≤ℤ n → pos 0 ≤ℤ b)
    → ((m : ℕ) → n <ℤ pos (2 ^ m) → b <ℤ pos ((m + 1) * 2 ^ 57)) → log_under d entry ≡ true → Near 8 (b ⊖ depth_log d)
entry_near d entry n b e v none positive most h =
    depth_near d entry b (v ∙ ap blog64 e) (least entry b (λ l. none (subst (λ (z : ℤ). z <ℤ pos 1) (sym e) l)) (λ l. positive (subst (λ (z : ℤ). pos 1 ≤ℤ z) (sym e) l)))
    (λ m l. most m (subst (λ (z : ℤ). z <ℤ pos (2 ^ m)) (sym e) l)) h

halved : (v : ℤ) → (neg_ℤ (doublings 16) +ℤ pos 3) ≤ℤ v → v <ℤ doublings 16 → Near 8 (v ≫ 1)
halved (pos n) h g = record { least = omega (arith, ints); most = omega (arith, ints) }
halved (negsuc n) h g = record { least = omega (arith, ints); most = omega (arith, ints) }

-- the middle of two such logs
pub middle_near : (a b : ℤ) → Near 8 a → Near 8 b → Near 8 (middle a b)
middle_near a b h g =
    let al = h.least in
    let am = h.most in
    let bl = g.least in
    let bm = g.most in
    let s = bounded (a +ℤ b) (neg_ℤ (doublings 16) +ℤ pos 2) (doublings 16 -ℤ pos 2) (omega (arith, ints)) (omega (arith, ints)) (omega (arith, ints)) (omega (arith, ints)) in
    let t = bounded ((a ⊕ b) +ℤ pos 1) (neg_ℤ (doublings 16) +ℤ pos 3) (doublings 16 -ℤ pos 1) (omega (arith, ints)) (omega (arith, ints)) (omega (arith, ints)) (omega (arith, ints)) in
    halved (a ⊕ b ⊕ pos 1) t.0 (omega (arith, ints, t.1))
