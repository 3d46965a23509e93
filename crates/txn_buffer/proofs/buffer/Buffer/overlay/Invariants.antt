use Rattle.std.proofs.Common.{◌≡◌}
use Rattle.txn_buffer.specs.Passing.{IsAscending, outcome}
use Rattle.txn_buffer.specs.Reads.{pairs_of, writes_of}
use Rattle.txn_buffer.proofs.buffer.Buffer.overlay.Given as goal

abbrev pub invariant-loop-key : goal.invariant-loop-key
invariant-loop-key l = record {
  outcome : outcome l.merge (writes_of l.key-iterator) ≡ outcome l.initial.merge (writes_of l.initial.key-iterator);
  waiting : IsAscending (pairs_of l.merge.waiting.items);
  entries : IsAscending l.key-iterator;
}
