use Rattle.std.proofs.Common.{◌≡◌, ◌++◌, map}
use Rattle.txn_request.specs.Lowered.{lock_mutation}
use Rattle.txn_request.proofs.lowering.lock_mutations.Given as goal

abbrev pub invariant-loop-lock : goal.invariant-loop-lock
invariant-loop-lock g l = l.mutations.items ++ map (lock_mutation g.L.PessimisticLock.key_of g.L.PessimisticLock.assertion_of) l.lock-iterator.rest.items ≡ map (lock_mutation g.L.PessimisticLock.key_of g.L.PessimisticLock.assertion_of) l.initial.lock-iterator.rest.items
