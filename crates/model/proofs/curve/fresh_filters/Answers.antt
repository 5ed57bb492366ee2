-- Four filters, each from its guess.
use Rattle.model.proofs.Making.{filters_by}
use Rattle.model.proofs.curve.fresh_filters.Goals as goal

pub returns : goal.returns
returns c =
    filters_by c.args.n c.guess.result c.guess-2.result c.guess-3.result c.guess-4.result c.new.result c.new-2.result c.new-3.result c.new-4.result
    (rw (← c.of.ensures, ← c.of-2.ensures, ← c.of-3.ensures) c.guess.ensures) c.new.ensures
    (rw (← c.of-4.ensures, ← c.of-5.ensures, ← c.of-6.ensures) c.guess-2.ensures) c.new-2.ensures
    (rw (← c.of-7.ensures, ← c.of-8.ensures, ← c.of-9.ensures) c.guess-3.ensures) c.new-3.ensures
    (rw (← c.of-10.ensures, ← c.of-11.ensures, ← c.of-12.ensures) c.guess-4.ensures) c.new-4.ensures
