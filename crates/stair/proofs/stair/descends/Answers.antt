-- What the library says of a sorted row.
use Rattle.std.proofs.Common.{leb, rules}
use Rattle.std.proofs.lemmas.List.Sorted.{answers_always}
use borrow.Author.Tests.{tests}
use Rattle.stair.proofs.Rows.{sorted_down}
use Rattle.stair.proofs.stair.descends.Goals as goal

pub returns : goal.returns
returns c =
    sorted_down c.args.row.now c.is_sorted_by.result (search rules)
    (c.is_sorted_by.ensures.cases (λ x y. leb y x) (answers_always _ _ _ (λ f a r g k. search (rules, tests))))
