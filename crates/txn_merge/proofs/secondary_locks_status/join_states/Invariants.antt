use Rattle.std.proofs.Common.{◌≡◌}
use Rattle.txn_merge.specs.Gathered.{values_of}
use Rattle.txn_merge.specs.Secondary.{first_fault, nothing_seen}
use Rattle.txn_merge.proofs.SecondarySeen.{all_seen}
use Rattle.txn_merge.proofs.secondary_locks_status.join_states.Given as goal

abbrev pub invariant-loop-result : goal.invariant-loop-result
invariant-loop-result l = record {
  fault : first_fault l.seen.commit l.result-iterator.rest.items ≡ first_fault 0 l.initial.result-iterator.rest.items;
  all : all_seen l.seen (values_of l.result-iterator.rest.items) ≡ all_seen nothing_seen (values_of l.initial.result-iterator.rest.items);
}
