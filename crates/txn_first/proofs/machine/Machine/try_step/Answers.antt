use Rattle.std.proofs.Common.{◌≡◌, length, ◌≤◌, ◌∙◌, sym, subst}
use Rattle.txn_first.specs.Lists.{lists_of}
use Rattle.txn_first.proofs.Machines.{step_longer, step_sends, step_note, sent_len}
use Rattle.txn_first.proofs.machine.Machine.try_step.Goals as goal

pub note-requires-clause-some : goal.note-requires-clause-some
note-requires-clause-some c =
    step_longer c.args.self.now c.run.new.self c.args.line c.requires.can.lines c.in_ok-run.ensures c.requires.can.good c.requires.can.stands c.requires.memory

pub note-requires-clause-from : goal.note-requires-clause-from
note-requires-clause-from c =
    let from : c.len-from.result ≡ length c.args.self.now.post.sent.items = c.len-from.ensures ∙ sent_len c.args.self.now.post.sent in
    subst (λ n. n ≤ length c.run.new.self.post.sent.items) (sym from) (step_sends c.args.self.now c.run.new.self c.args.line c.in_ok-run.ensures)

pub returns-clause-note : goal.returns-clause-note
returns-clause-note c =
    let from : c.len-from.result ≡ length c.args.self.now.post.sent.items = c.len-from.ensures ∙ sent_len c.args.self.now.post.sent in
    step_note c.args.self.now (lists_of c.run.new.self) c.args.line c.requires.can.lines c.in_ok-note.note c.len-from.result c.delivered_line-delivered.result c.in_ok-run.ensures c.requires.can.good c.requires.can.stands c.requires.memory from c.delivered_line-delivered.ensures c.in_ok-note.ensures
