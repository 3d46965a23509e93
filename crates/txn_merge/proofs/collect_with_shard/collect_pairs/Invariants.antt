use Rattle.std.proofs.Common.{◌≡◌, ◌++◌}
use Rattle.std.specs.List.{filter_map, flat_map}
use Rattle.txn_merge.specs.Shards.{misfit, pairs_of}
use Rattle.txn_merge.proofs.collect_with_shard.collect_pairs.Given as goal

abbrev pub invariant-loop-shard : goal.invariant-loop-shard
invariant-loop-shard l = record {
  pairs : l.pairs.items ++ flat_map pairs_of l.shard-iterator.rest.items ≡ flat_map pairs_of l.initial.shard-iterator.rest.items;
  fits : filter_map misfit l.shard-iterator.rest.items ≡ filter_map misfit l.initial.shard-iterator.rest.items;
}
