use Rattle.std.proofs.Common.{ltb, arith, rules}
use Rattle.std.proofs.lemmas.Bool.{ltb-true, ltb-false}
use Rattle.std.proofs.lemmas.List.Sorted.{IsPartitionPoint-from_clause, IsPartitionedBy-ltb}
use Rattle.tables.proofs.Rising.{never_decreasing}
use Rattle.tables.proofs.select.lower_bound.Goals as goal

pub returns : goal.returns
returns c =
    let t = c.args.table.now in
    let size = c.requires.size in
    let parted = IsPartitionedBy-ltb (λ n. n) t c.args.q (never_decreasing t c.requires) in
    let point = IsPartitionPoint-from_clause (λ n. ltb n c.args.q) t _ c.partition_point.ensures.partitioned parted (λ a r q k. search rules) in
    record {
      within = omega arith;
      before = λ h. ltb-true _ _ (point.0 _ 0 (omega arith) (omega arith));
      after = λ h. ltb-false _ _ (point.1 _ 0 (omega arith) (omega arith));
    }
