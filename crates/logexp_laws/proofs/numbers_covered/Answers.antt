use Rattle.std.proofs.Common.{ℕ, sym, subst}
use Rattle.logexp_laws.specs.Undone.{Undone, Rising}
use Rattle.logexp_laws.proofs.Undo.{undone, rising}
use Rattle.logexp_laws.proofs.numbers_covered.Goals as goal

pub returns : goal.returns
returns c = record {
  count = c.covered.ensures;
  undone = subst (λ (r : ℕ). Undone r) (sym c.covered.ensures) undone;
  rising = subst (λ (r : ℕ). Rising r) (sym c.covered.ensures) rising;
}
