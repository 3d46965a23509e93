use Rattle.std.proofs.Common.{◌≡◌, ◌+◌, length}
use Rattle.txn_buffer.specs.Reads.{unfilled_all}
use Rattle.txn_buffer.proofs.buffer.Buffer.unfill_all.Given as goal

abbrev pub invariant-loop : goal.invariant-loop
invariant-loop l = record {
  undone : unfilled_all l.self l.keys.items ≡ unfilled_all l.initial.self l.initial.keys.items;
  left : length l.keys.items + l.counter ≡ l.end;
}
