use Rattle.std.proofs.Common.{◌≡◌, ◌+◌, ◌^◌, ◌<◌, length}
use Rattle.std.specs.List.{filter}
use Rattle.txn_buffer.specs.Reads.{is_absent}
use Rattle.txn_buffer.proofs.buffer.Buffer.scan_limit.Given as goal

abbrev pub invariant-loop-entry : goal.invariant-loop-entry
invariant-loop-entry l = record {
  total : l.most + length (filter (λ e. is_absent e.1) l.entry-iterator) ≡ l.initial.most + length (filter (λ e. is_absent e.1) l.initial.entry-iterator);
  bound : l.most + length l.entry-iterator < 2 ^ 64;
}
