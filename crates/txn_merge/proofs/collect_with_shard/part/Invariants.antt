use Rattle.std.proofs.Common.{◌≡◌, ◌++◌, None}
use Rattle.txn_merge.specs.Gathered.{errors_of, values_of}
use Rattle.txn_merge.specs.Shards.{last_or}
use Rattle.txn_merge.proofs.collect_with_shard.part.Given as goal

abbrev pub invariant-loop-result : goal.invariant-loop-result
invariant-loop-result g l = record {
  values : l.values.items ++ values_of l.result-iterator.rest.items ≡ values_of l.initial.result-iterator.rest.items;
  error : last_or l.last_error (errors_of l.result-iterator.rest.items) ≡ last_or None (errors_of l.initial.result-iterator.rest.items);
}
