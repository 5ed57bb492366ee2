use Rattle.std.proofs.Common.{ℤ, sym, ap, ◌∙◌, subst, w64, SFits, rules}
use Rattle.std.proofs.lemmas.Int.{to_z-of_z}
use Rattle.flat.specs.Flat.{log_under, ac_log, Near}
use Rattle.flat.proofs.Nearness.{ac_under}
use Rattle.flat.proofs.flat.ac_log.Goals as goal

pub returns : goal.returns
unfolding ac_log
returns c =
    let f : SFits w64 c.entry_log.result = search rules in
    let near = c.entry_log.ensures.near (ap (log_under c.args.depth) c.q.ensures ∙ ac_under c.args.depth c.args.qindex) in
    record { value = search rules; near = subst (λ (z : ℤ). Near 8 z) (sym (to_z-of_z w64 c.entry_log.result f)) near }
