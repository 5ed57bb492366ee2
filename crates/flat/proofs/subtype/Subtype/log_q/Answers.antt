use Rattle.std.proofs.Common.{◌≡◌, ℤ, sym, subst, rules}
use Rattle.flat.specs.Flat.{log_q_of, Near}
use Rattle.flat.proofs.Subtypes.{log_q_near}
use Rattle.flat.proofs.subtype.Subtype.log_q.Goals as goal

pub returns : goal.returns
unfolding log_q_of
returns c =
    let e : _ ≡ log_q_of c.args.self c.args.log_base_q = search rules in
    record { value = e; near = λ h. subst (λ (z : ℤ). Near 16 z) (sym e) (log_q_near c.args.self c.args.log_base_q h) }
