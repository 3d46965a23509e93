use Rattle.std.proofs.Common.{◌≡◌, drop, map}
use Rattle.txn_kv.specs.ErrorView.{listed, view_of}
use Rattle.txn_clients.specs.Want.{some_want_memory}
use Rattle.txn_clients.proofs.want.+wants_memory.Given as goal

abbrev pub invariant-some_want_memory-loop-error : goal.invariant-some_want_memory-loop-error
invariant-some_want_memory-loop-error l = some_want_memory (listed (map view_of (drop l.error-index l.errors))) ≡ some_want_memory (listed (map view_of l.errors))
