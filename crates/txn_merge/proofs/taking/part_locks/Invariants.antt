use Rattle.std.proofs.Common.{◌≡◌, ◌++◌, map}
use Rattle.txn_merge.specs.Locks.{locks_of_pairs, without_pair_lock}
use Rattle.txn_merge.proofs.taking.part_locks.Given as goal

abbrev pub invariant-loop-pair : goal.invariant-loop-pair
invariant-loop-pair l = record {
  taken : l.locks.items ++ locks_of_pairs l.pair-iterator.rest.items ≡ locks_of_pairs l.initial.pair-iterator.rest.items;
  left : l.others.items ++ map without_pair_lock l.pair-iterator.rest.items ≡ map without_pair_lock l.initial.pair-iterator.rest.items;
}
