use Rattle.std.proofs.Common.{◌≡◌, take}
use Rattle.txn_model.specs.Status.{own_locks}
use Rattle.txn_model.proofs.secondaries.own_locks.Given as goal

abbrev pub invariant-loop-key : goal.invariant-loop-key
invariant-loop-key l = l.locks ≡ own_locks l.cells l.start (take l.key-index l.keys)
