use Rattle.std.proofs.Common.{◌≡◌, ◌++◌}
use Rattle.std.specs.List.{flat_map}
use Rattle.txn_merge.specs.Shards.{keys_of}
use Rattle.txn_merge.proofs.collect_with_shard.success_keys.Given as goal

abbrev pub invariant-loop-shard : goal.invariant-loop-shard
invariant-loop-shard l = l.keys.items ++ flat_map keys_of l.shard-iterator.rest.items ≡ flat_map keys_of l.initial.shard-iterator.rest.items
