use Rattle.std.proofs.Common.{◌≡◌, ◌≤◌, ◌+◌, ◌-◌, ◌^◌, min}
use Rattle.txn_merge.specs.Cleanup.{resolved_of}
use Rattle.txn_merge.specs.Gathered.{errors_of, values_of}
use Rattle.txn_merge.proofs.cleanup_locks_result.sum_resolved.Given as goal

abbrev pub invariant-loop-result : goal.invariant-loop-result
invariant-loop-result l = record {
  small : l.sum ≤ 2 ^ 64 - 1;
  sum : min (2 ^ 64 - 1) (l.sum + resolved_of (values_of l.result-iterator.rest.items)) ≡ min (2 ^ 64 - 1) (resolved_of (values_of l.initial.result-iterator.rest.items));
  errors : errors_of l.result-iterator.rest.items ≡ errors_of l.initial.result-iterator.rest.items;
}
