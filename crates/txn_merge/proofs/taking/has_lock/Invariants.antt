use Rattle.std.proofs.Common.{◌≡◌, drop}
use Rattle.txn_merge.specs.Locks.{locks_of_pairs}
use Rattle.txn_merge.proofs.taking.has_lock.Given as goal

abbrev pub invariant-loop-pair : goal.invariant-loop-pair
invariant-loop-pair l = locks_of_pairs (drop l.pair-index l.pairs) ≡ locks_of_pairs l.pairs
