use Rattle.std.proofs.Common.{◌≡◌, length}
use Rattle.txn_buffer.specs.Passing.{IsAscending, IsUpTo, outcome}
use Rattle.txn_buffer.specs.Reads.{pairs_of}
use Rattle.txn_buffer.specs.Writes.{Writes}
use Rattle.txn_buffer.proofs.merge.Merge.pass_below.Given as goal

abbrev pub invariant-loop-self : goal.invariant-loop-self
invariant-loop-self l = record {
  outcome : (writes : Writes) → IsUpTo l.key writes → outcome l.self writes ≡ outcome l.initial.self writes;
  ascending : IsAscending (pairs_of l.self.waiting.items);
}

abbrev pub decreases-loop-self : goal.decreases-loop-self
decreases-loop-self l = length l.self.waiting.items
