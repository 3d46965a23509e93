use Rattle.std.proofs.Common.{◌≡◌}
use Rattle.std.specs.Prelude.{map}
use Rattle.txn_shard.proofs.by_keys.for_store.Given as goal

abbrev pub invariant-loop-shard : goal.invariant-loop-shard
invariant-loop-shard g l = l.more.items ≡ map (λ shard. (shard.items, l.store)) l.yielded
