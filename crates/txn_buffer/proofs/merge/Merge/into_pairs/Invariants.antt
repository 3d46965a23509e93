use Rattle.std.proofs.Common.{◌≡◌, ◌++◌}
use Rattle.txn_buffer.specs.Reads.{pairs_of}
use Rattle.txn_buffer.proofs.merge.Merge.into_pairs.Given as goal

abbrev pub invariant-loop-pair : goal.invariant-loop-pair
invariant-loop-pair l = pairs_of l.pairs.items ++ pairs_of l.pair-iterator.rest.items ≡ pairs_of l.initial.pairs.items ++ pairs_of l.initial.pair-iterator.rest.items
