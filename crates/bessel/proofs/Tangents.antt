-- The rules of the table of tangents by one computed test.
use Rattle.std.proofs.Common.{◌≡◌, ℕ, zero, suc, ◌+◌, ◌^◌, ◌<◌, Bool, true, ◌&&◌, ltb, refl}
use Rattle.std.proofs.lemmas.Bool.Decides.{Decides-below_and, Decides-ltb}
use Rattle.bessel.specs.Tangent.{tans, tan}

-- f stays below g at every number below n
abbrev pub under : (ℕ → ℕ) → (ℕ → ℕ) → ℕ → Bool
under f g zero = true
under f g (suc n) = ltb (f n) (g n) && under f g n

pub below : (f g : ℕ → ℕ) (n : ℕ) → under f g n ≡ true → (k : ℕ) → k < n → f k < g k
below f g n t =
    (Decides-below_and (λ k. ltb (f k) (g k)) (λ k. f k < g k) (under f g) (λ k. Decides-ltb (f k) (g k)) refl (λ _. refl) n).0 t

pub tan_small : (k : ℕ) → k < 18 → tan k < 2 ^ 16
unfolding tan tans
tan_small = below tan (λ _. 2 ^ 16) 18 refl

pub tan_rises : (k : ℕ) → k < 17 → tan k < tan (k + 1)
unfolding tan tans
tan_rises = below tan (λ k. tan (k + 1)) 17 refl
