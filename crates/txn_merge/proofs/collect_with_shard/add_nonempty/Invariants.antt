use Rattle.std.proofs.Common.{◌≡◌, ◌++◌, [], map}
use Rattle.txn_merge.specs.Shards.{found_of}
use Rattle.txn_merge.proofs.collect_with_shard.add_nonempty.Given as goal

abbrev pub invariant-loop-value : goal.invariant-loop-value
invariant-loop-value l = l.pairs.items ++ found_of (map (λ mutation. mutation.key) l.mutations.rest.items) l.value-iterator.rest.items [] ≡ l.initial.pairs.items ++ found_of (map (λ mutation. mutation.key) l.initial.mutations.rest.items) l.initial.value-iterator.rest.items []
