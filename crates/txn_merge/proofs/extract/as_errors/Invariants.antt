use Rattle.std.proofs.Common.{◌≡◌, ◌++◌, map}
use Rattle.txn_kv.specs.ErrorView.{region, view_of}
use Rattle.txn_merge.proofs.extract.as_errors.Given as goal

abbrev pub invariant-loop-error : goal.invariant-loop-error
invariant-loop-error l = map view_of l.all.items ++ map region l.error-iterator.rest.items ≡ map region l.initial.error-iterator.rest.items
