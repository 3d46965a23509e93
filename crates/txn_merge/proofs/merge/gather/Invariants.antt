use Rattle.std.proofs.Common.{◌≡◌, ◌++◌}
use Rattle.txn_merge.specs.Gathered.{errors_of, values_of}
use Rattle.txn_merge.proofs.merge.gather.Given as goal

abbrev pub invariant-loop-result : goal.invariant-loop-result
invariant-loop-result g l = record {
  values : l.values.items ++ values_of l.result-iterator.rest.items ≡ values_of l.initial.result-iterator.rest.items;
  errors : errors_of l.result-iterator.rest.items ≡ errors_of l.initial.result-iterator.rest.items;
}
