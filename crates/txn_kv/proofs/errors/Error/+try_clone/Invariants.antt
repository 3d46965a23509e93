use Rattle.std.proofs.Common.{◌≡◌, map, take}
use Rattle.txn_kv.specs.ErrorView.{view_of}
use Rattle.txn_kv.proofs.errors.Error.+try_clone.Given as goal

abbrev pub invariant-try_clone_all-loop-error : goal.invariant-try_clone_all-loop-error
invariant-try_clone_all-loop-error l = map view_of l.copies.items ≡ map view_of (take l.error-index l.error-items)
