use Rattle.std.proofs.Common.{refl, rules}
use Rattle.logexp.specs.Cordic.{step, steps}
use Rattle.logexp.proofs.TableRules.{step_small}
use Rattle.logexp.proofs.tables.step_of.Goals as goal

pub returns : goal.returns
unfolding step steps
returns c = record { value = refl; small = step_small c.args.k (search rules) }
