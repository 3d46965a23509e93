use Rattle.std.proofs.Common.{◌≡◌, ◌++◌, map}
use Rattle.txn_kv.specs.ErrorView.{key, view_of}
use Rattle.txn_merge.proofs.taking.take_errors.Given as goal

abbrev pub invariant-loop-error : goal.invariant-loop-error
invariant-loop-error l = map view_of l.found.items ++ map key l.error-iterator.rest.items ≡ map key l.initial.error-iterator.rest.items
