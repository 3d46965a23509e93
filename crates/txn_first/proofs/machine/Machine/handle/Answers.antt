use Rattle.std.proofs.Common.{◌≡◌, ◌∙◌, ◌++◌, ◌∷◌, [], ap, sym, set, true}
use Rattle.txn_model.specs.Table.{table}
use Rattle.txn_first.specs.Lists.{lists_of, request_at}
use Rattle.txn_first.proofs.Rows.{request_here, sound_serves_at}
use Rattle.txn_first.proofs.machine.Machine.handle.Goals as goal

pub serve-requires : goal.serve-requires
serve-requires c = sound_serves_at (lists_of c.args.self.now) c.args.place c.index.result.now c.requires.sound c.requires.sent c.index.ensures

pub returns-clause-reply : goal.returns-clause-reply
returns-clause-reply c =
    let m = c.args.self.now in
    c.in_ok-reply.ensures.reply ∙ ap (λ r. (table m.store r).reply) (sym (request_here m.post.sent.items c.args.place c.index.result.now c.requires.sent c.index.ensures))

pub returns-clause-lists : goal.returns-clause-lists
returns-clause-lists c =
    let m = c.args.self.now in
    let stored : c.serve.new.self ≡ (table m.store (request_at m.post.sent.items c.args.place)).store =
    c.in_ok-reply.ensures.store ∙ ap (λ r. (table m.store r).store) (sym (request_here m.post.sent.items c.args.place c.index.result.now c.requires.sent c.index.ensures)) in
    let served : c.push.new.self.items ≡ m.served.items ++ c.args.ticket ∷ [] = c.in_ok-push.ensures.items in
    λ i. record {
      store = stored i;
      sent = m.post.sent.items;
      letters = set m.post.letters.items c.args.place (record { served = true; gone = true });
      tickets = m.post.tickets.items;
      rows = m.rows.items;
      outcomes = m.outcomes.items;
      ended = m.ended.items;
      served = served i;
    }
