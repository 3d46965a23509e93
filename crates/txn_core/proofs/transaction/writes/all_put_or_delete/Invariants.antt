use Rattle.std.proofs.Common.{◌≡◌, drop}
use Rattle.txn_core.specs.Transaction.{all_put_or_delete}
use Rattle.txn_core.proofs.transaction.writes.all_put_or_delete.Given as goal

abbrev pub invariant-loop-mutation : goal.invariant-loop-mutation
invariant-loop-mutation l = all_put_or_delete (drop l.mutation-index l.mutations) ≡ all_put_or_delete l.mutations
