use Rattle.std.proofs.Common.{◌≡◌, ◌++◌}
use Rattle.txn_buffer.specs.Contents.{mutations}
use Rattle.txn_buffer.proofs.buffer.Buffer.to_proto_mutations.Given as goal

abbrev pub invariant-loop-key : goal.invariant-loop-key
invariant-loop-key l = l.mutations.items ++ mutations l.key-iterator ≡ mutations l.self.entries
