-- The shares of the four subtypes one after another, and the shows.
use Rattle.std.proofs.Common.{◌≡◌, get_or, ℤ, pos, sym, refl, subst, w64, SFits, rules}
use Rattle.std.specs.List.{fold}
use Rattle.std.proofs.lemmas.Fn.{fold_over, slice_gives, fronts}
use Rattle.std.proofs.lemmas.List.Sums.{fold_push}
use borrow.Author.Tests.{tests}
use Rattle.flat.specs.declared.subtype.Subtype.{Subtype}
use Rattle.flat.specs.Flat.{code_of}
use Rattle.search.specs.Predict.{with_share}
use Rattle.search.proofs.Forecasting.{forecast_is}
use Rattle.search.proofs.forecast.predict_base.Goals as goal

pub returns : goal.returns
returns g c =
    let meaning = g.M.BitModel.meaning in
    let m = c.args.model.now in
    let kinds = c.args.counts.now.kinds in
    let base = c.args.base in
    let share : ℤ → Subtype → ℤ = λ sum k. with_share meaning m k (get_or kinds (code_of k) 0) base sum in
    let t =
    fold_over fronts (λ k. k.now) _ (λ ks sum. sum ≡ fold share (pos 0) ks) _
    (λ ks sum k r f e q.
    let one : r ≡ share sum k.now = search (rules, tests) in
    (rw (fold_push share (pos 0) ks k.now, sym e) one, search (rules, tests)))
    _ _ _ _ (slice_gives c.iter.result) refl c.fold-coded.ensures.ran in
    let fc : SFits w64 c.fold-coded.result = search rules in
    let fs : SFits w64 c.saturating_mul.result = search rules in
    let fr : SFits w64 c.saturating_add.result = search rules in
    forecast_is meaning m kinds base c.fold-coded.result c.saturating_mul.result c.saturating_add.result
    (subst (λ ks. c.fold-coded.result ≡ fold share (pos 0) ks) c.iter.ensures.rest t)
    (search rules) fc fs fr c.saturating_mul.ensures c.saturating_add.ensures
