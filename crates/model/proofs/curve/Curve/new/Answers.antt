-- A fresh curve, and what holds of it after any lessons.
use Rattle.std.proofs.Common.{sym, ap, ◌∙◌, subst}
use Rattle.model.specs.Curves.{curve_of}
use Rattle.model.specs.Laws.{AllBounded, lessons}
use Rattle.model.specs.declared.curve.Curve.{Curve}
use Rattle.model.proofs.Bounds.{bounds_kept}
use Rattle.model.proofs.Making.{made_so}
use Rattle.model.proofs.curve.Curve.new.Goals as goal

pub returns : goal.returns
returns c =
    let made = c.of.ensures.value ∙ ap curve_of c.lawful.ensures in
    record {
      made = made_so c.args.settings.now c.in_ok-accept.field-0 c.of.result c.in_ok-accept.ensures.value made;
      bounded = (
        c.of.ensures.target,
        λ ls. subst (λ (m : Curve). AllBounded (lessons m ls)) (sym made) (bounds_kept c.args.settings.now ls),
      );
    }
