use Rattle.std.proofs.Common.{[], sym, ap, ◌∙◌, arith, w64, SFits, rules}
use Rattle.std.proofs.lemmas.Bool.Decides.{nat_tests}
use Rattle.controller.proofs.Choosings.{entries_in, entries_out, performed}
use Rattle.controller.proofs.controller.Controller.perform.Goals as goal

pub returns-in-Some : goal.returns-in-Some
returns-in-Some g c =
    let fm : SFits w64 c.in-Choose.log_isqrt_mean_scale = search rules in
    let l = c.in-Some.ensures.lookup in
    let e = entries_in g.O.Outlook.entries c.args.outlooks.now c.in-Choose.outlook _ (grind (arith, nat_tests, l.0)) ∙ ap g.O.Outlook.entries (sym l.1) in
    let p =
    performed g.M.BitModel.meaning g.O.Outlook.entries c.args.outlooks.now c.args.self.now.core c.args.self.now.model c.args.call c.in-Choose.subtype
    c.in-Choose.outlook c.in-Choose.previous c.in-Choose.log_isqrt_mean_scale (g.O.Outlook.entries c.in-Some.ahead.now) c.perform_choice.result c.perform_choice.new.self.core c.perform_choice.new.self.model
    c.in-Choose.is fm e c.perform_choice.ensures.answer c.perform_choice.ensures.core c.perform_choice.ensures.model in
    record { answer = p.answer; core = p.core; model = p.model }

pub returns-in-None : goal.returns-in-None
returns-in-None g c =
    let fm : SFits w64 c.in-Choose.log_isqrt_mean_scale = search rules in
    let r = c.perform_choice-in-None in
    let e = entries_out g.O.Outlook.entries c.args.outlooks.now c.in-Choose.outlook (grind (arith, nat_tests, c.in-None.ensures.lookup.0)) in
    let p =
    performed g.M.BitModel.meaning g.O.Outlook.entries c.args.outlooks.now c.args.self.now.core c.args.self.now.model c.args.call c.in-Choose.subtype
    c.in-Choose.outlook c.in-Choose.previous c.in-Choose.log_isqrt_mean_scale [] r.result r.new.self.core r.new.self.model c.in-Choose.is fm e r.ensures.answer r.ensures.core
    r.ensures.model in
    record { answer = p.answer; core = p.core; model = p.model }
