use Rattle.std.proofs.Common.{◌≡◌, ◌++◌, map}
use Rattle.txn_merge.specs.Shards.{paired, unflagged}
use Rattle.txn_merge.proofs.collect_with_shard.add_unflagged.Given as goal

abbrev pub invariant-loop-value : goal.invariant-loop-value
invariant-loop-value l = l.pairs.items ++ unflagged (paired (map (λ mutation. mutation.key) l.mutations.rest.items) l.value-iterator.rest.items) l.not_founds.rest.items ≡ l.initial.pairs.items ++ unflagged (paired (map (λ mutation. mutation.key) l.initial.mutations.rest.items) l.initial.value-iterator.rest.items) l.initial.not_founds.rest.items
