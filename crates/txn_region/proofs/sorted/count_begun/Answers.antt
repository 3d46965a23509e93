use Rattle.std.proofs.Common.{rules}
use Rattle.std.proofs.lemmas.List.Sorted.{IsPartitionPoint-from_clause}
use Rattle.txn_kv.specs.declared.region.RegionWithLeader.{RegionWithLeader}
use Rattle.txn_region.specs.Regions.{is_below}
use Rattle.txn_region.proofs.Searching.{begun_in_turn, point_is_leading}
use Rattle.txn_region.proofs.sorted.count_begun.Goals as goal

pub returns-clause-count : goal.returns-clause-count
returns-clause-count c =
    let rs = c.args.regions.now in
    let p = λ (r : RegionWithLeader). is_below r.region.start_key c.args.end.now in
    point_is_leading p rs c.partition_point.result c.partition_point.ensures.bound (IsPartitionPoint-from_clause p rs c.partition_point.result c.partition_point.ensures.partitioned (begun_in_turn c.args.end.now rs c.requires) (λ a r f' k. search rules))
