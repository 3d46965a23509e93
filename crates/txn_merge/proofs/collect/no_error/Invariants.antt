use Rattle.std.proofs.Common.{◌≡◌}
use Rattle.txn_merge.specs.Gathered.{errors_of}
use Rattle.txn_merge.proofs.collect.no_error.Given as goal

abbrev pub invariant-loop-result : goal.invariant-loop-result
invariant-loop-result l = errors_of l.result-iterator.rest.items ≡ errors_of l.initial.result-iterator.rest.items
