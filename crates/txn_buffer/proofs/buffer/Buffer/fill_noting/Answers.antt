use Rattle.std.proofs.Common.{rules, Some}
use Rattle.txn_buffer.proofs.Undo.{undo_noted}
use Rattle.txn_buffer.proofs.buffer.Buffer.fill_noting.Goals as goal

pub returns-clause-undo : goal.returns-clause-undo
returns-clause-undo c = undo_noted c.args.self.now c.fill.new.self c.args.keys.now.items _ c.into_parts-key.result.0 (Some c.into_parts-key.result.1) c.fill.result c.in_ok-note.ensures.ok (search rules) c.fill.ensures.ok c.fill.ensures.err
