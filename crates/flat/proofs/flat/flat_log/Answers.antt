use Rattle.std.proofs.Common.{◌≡◌, ℤ, sym, ap, ◌∙◌, subst, w64, SFits, rules}
use Rattle.std.proofs.lemmas.Int.{to_z-of_z}
use Rattle.flat.specs.Flat.{log_under, middle, flat_base, Near}
use Rattle.flat.proofs.Nearness.{ac_under, dc_under, middle_near}
use Rattle.flat.proofs.flat.flat_log.Goals as goal

pub returns : goal.returns
unfolding flat_base
returns c =
    let a = c.entry_log.ensures.near (ap (log_under c.args.depth) c.q-ac.ensures ∙ ac_under c.args.depth c.args.qindex) in
    let d = c.entry_log-2.ensures.near (ap (log_under c.args.depth) c.matching_dc-dc.ensures ∙ dc_under c.args.depth _) in
    let f : SFits w64 c.entry_log.result = search rules in
    let g : SFits w64 c.entry_log-2.result = search rules in
    let h : SFits w64 c.midway.result = search rules in
    let m : c.midway.result ≡ middle c.entry_log.result c.entry_log-2.result = simp to_z-of_z at c.midway.ensures in
    record { value = search rules; near = subst (λ (z : ℤ). Near 8 z) (sym (to_z-of_z w64 c.midway.result h ∙ m)) (middle_near c.entry_log.result c.entry_log-2.result a d) }
