use Rattle.std.proofs.Common.{get_or, pos, ap, arith}
use lib.ListN.{get_or-map}
use Rattle.std.proofs.lemmas.Int.{ints}
use Rattle.logexp.specs.Cordic.{atanh, atanhs}
use Rattle.logexp.proofs.TableRules.{atanh_small}
use Rattle.logexp.proofs.tables.atanh_at.Goals as goal

pub returns : goal.returns
unfolding atanh atanhs
returns c =
    omega (arith, ints, get_or-map pos atanhs c.min.result 0, ap (λ j. get_or atanhs j 0) c.min.ensures, atanh_small c.args.i)
