use Rattle.std.proofs.Common.{◌≡◌, ◌++◌}
use Rattle.txn_merge.specs.Locks.{locks_of_errors, without_locks}
use Rattle.txn_merge.proofs.taking.take_error_locks.Given as goal

abbrev pub invariant-loop-error : goal.invariant-loop-error
invariant-loop-error l = record {
  taken : l.locks.items ++ locks_of_errors l.error-iterator.rest.items ≡ locks_of_errors l.initial.error-iterator.rest.items;
  left : l.others.items ++ without_locks l.error-iterator.rest.items ≡ without_locks l.initial.error-iterator.rest.items;
}
