use Rattle.std.proofs.Common.{◌≡◌, ◌++◌}
use Rattle.txn_buffer.specs.Reads.{pairs_of, unwritten}
use Rattle.txn_buffer.proofs.buffer.Buffer.unwritten.Given as goal

abbrev pub invariant-loop-pair : goal.invariant-loop-pair
invariant-loop-pair l = pairs_of l.read.items ++ unwritten l.self (pairs_of l.pair-iterator.rest.items) ≡ unwritten l.self (pairs_of l.initial.pair-iterator.rest.items)
