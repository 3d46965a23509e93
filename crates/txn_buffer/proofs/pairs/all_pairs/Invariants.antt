use Rattle.std.proofs.Common.{◌≡◌, ◌++◌}
use Rattle.txn_buffer.specs.Reads.{pairs_of}
use Rattle.txn_buffer.proofs.pairs.all_pairs.Given as goal

abbrev pub invariant-loop-key : goal.invariant-loop-key
invariant-loop-key l = pairs_of l.all.items ++ l.key-iterator ≡ l.initial.key-iterator
