-- What is left to show of `in_ranges`: the place is the first range that does not end below x. Assumes nothing.
use Prim.Native.Nat.{ℕ}
use lib.Dec.{ltb}
use Rattle.std.proofs.Common.{rules}
use Rattle.std.proofs.lemmas.List.Sorted.{IsPartitionPoint-from_clause}
use Rattle.classes.proofs.RangeLaws.{parted, search_at, search_end}
use Rattle.classes.proofs.ranges.in_ranges.Goals as goal

pub returns-in-Some : goal.returns-in-Some
returns-in-Some c =
    search_at c.args.table.now c.args.x c.requires c.partition_point-i.result
    (IsPartitionPoint-from_clause (λ (r : ℕ × ℕ). ltb r.1 c.args.x) _ _ c.partition_point-i.ensures.partitioned (parted c.args.table.now c.args.x c.requires) (λ a r f' k. search rules))
    _ c.in-Some.ensures.lookup.0 c.in-Some.ensures.lookup.1

pub returns-in-None : goal.returns-in-None
returns-in-None c =
    search_end c.args.table.now c.args.x c.requires c.partition_point-i.result
    (IsPartitionPoint-from_clause (λ (r : ℕ × ℕ). ltb r.1 c.args.x) _ _ c.partition_point-i.ensures.partitioned (parted c.args.table.now c.args.x c.requires) (λ a r f' k. search rules))
    c.in-None.ensures.lookup.0
