use Rattle.std.proofs.Common.{◌≡◌, ◌++◌, map}
use Rattle.txn_merge.proofs.collect_with_shard.add_keys.Given as goal

abbrev pub invariant-loop-mutation : goal.invariant-loop-mutation
invariant-loop-mutation l = l.keys.items ++ map (λ mutation. mutation.key) l.mutation-iterator.rest.items ≡ l.initial.keys.items ++ map (λ mutation. mutation.key) l.initial.mutation-iterator.rest.items
