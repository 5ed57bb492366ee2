-- Both functions are exact at the powers of two, by a computed test of the 63 powers.
use Rattle.std.proofs.Common.{◌≡◌, ◌*◌, ◌^◌, true, ℤ, pos, refl, ap, ◌∙◌, arith}
use Rattle.logexp.specs.LogExp.{bexp64, blog64, computing}
use Rattle.logexp.specs.Laws.{ExactPower, ExactLog}
use Rattle.logexp.proofs.TableRules.{all, all_at, same, same_true}

powers_computed : all (λ k. same (bexp64 (pos (k * 2 ^ 57))) (pos (2 ^ k))) 63 ≡ true
unfolding computing
powers_computed = refl

logs_computed : all (λ k. same (blog64 (pos (2 ^ k))) (pos (k * 2 ^ 57))) 63 ≡ true
unfolding computing
logs_computed = refl

pub exact_power : (x r : ℤ) → r ≡ bexp64 x → ExactPower x r
exact_power x r e k h p =
    e ∙ ap bexp64 p ∙ same_true _ _ (all_at (λ k. same (bexp64 (pos (k * 2 ^ 57))) (pos (2 ^ k))) 63 powers_computed k (omega arith))

pub exact_log : (n r : ℤ) → r ≡ blog64 n → ExactLog n r
exact_log n r e k h p =
    e ∙ ap blog64 p ∙ same_true _ _ (all_at (λ k. same (blog64 (pos (2 ^ k))) (pos (k * 2 ^ 57))) 63 logs_computed k (omega arith))
