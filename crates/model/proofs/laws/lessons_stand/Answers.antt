-- One lesson, by the ways of its tests.
use Rattle.model.proofs.Lessons.{others_kept, scale_agrees, seen_again}
use Rattle.model.proofs.laws.lessons_stand.Goals as goal

pub returns : goal.returns
returns c = record { others = others_kept; agrees = scale_agrees; again = seen_again }
