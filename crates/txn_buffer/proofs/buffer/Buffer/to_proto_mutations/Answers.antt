use Rattle.std.proofs.Common.{rules}
use Rattle.txn_buffer.proofs.Ordered.{mutations_ascend_of}
use Rattle.txn_buffer.proofs.buffer.Buffer.to_proto_mutations.Goals as goal

pub returns-clause-ascending : goal.returns-clause-ascending
returns-clause-ascending c = mutations_ascend_of c.loop-key.mutations.items c.self.inside.entry_map.entries c.iter-key-items.ensures.ordered (search rules)
