-- The rows are kept as they came, and the law holds of them.
use Rattle.std.proofs.Common.{sym, refl}
use Rattle.stair.proofs.Rows.{never_more}
use Rattle.stair.proofs.stair.Stair.new.Goals as goal

pub returns : goal.returns
returns c =
    record {
      made = rw (sym c.if-not-all_descend.ensures) refl;
      ordered = never_more c.args.rows (sym c.if-not-all_descend.ensures);
    }
