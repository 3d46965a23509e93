use Rattle.std.proofs.Common.{◌≡◌, true}
use Rattle.txn_core.specs.Transaction.{all_put_or_delete}
use Rattle.txn_core.proofs.Lists.{HasStepped}
use Rattle.txn_core.proofs.transaction.writes.mutate_all.Given as goal

abbrev pub invariant-loop-mutation : goal.invariant-loop-mutation
invariant-loop-mutation l = record { stepped : HasStepped l.yielded l.initial.buffer l.buffer; left : all_put_or_delete l.mutation-iterator.rest.items ≡ true }
