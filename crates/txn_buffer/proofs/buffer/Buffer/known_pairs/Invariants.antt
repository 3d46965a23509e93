use Rattle.std.proofs.Common.{◌≡◌, ◌++◌}
use Rattle.txn_buffer.specs.Reads.{known_pairs, pairs_of}
use Rattle.txn_buffer.proofs.buffer.Buffer.known_pairs.Given as goal

abbrev pub invariant-loop-key : goal.invariant-loop-key
invariant-loop-key l = pairs_of l.pairs.items ++ known_pairs l.self l.key-iterator.rest.items ≡ known_pairs l.self l.initial.key-iterator.rest.items
