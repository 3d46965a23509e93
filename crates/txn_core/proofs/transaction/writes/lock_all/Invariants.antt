use Rattle.txn_core.specs.Transaction.{AreLocked}
use Rattle.txn_core.proofs.transaction.writes.lock_all.Given as goal

abbrev pub invariant-loop-key : goal.invariant-loop-key
invariant-loop-key l = AreLocked l.yielded l.initial.buffer l.buffer
