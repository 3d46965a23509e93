use Rattle.std.proofs.Common.{◌∙◌, [], ◌∷◌, ◌++◌, refl, ap, false}
use Rattle.txn_clients.proofs.Grouping.{mailed_one}
use Rattle.txn_clients.proofs.Telling.{on_ok}
use Rattle.txn_kv.specs.declared.ticket.Ticket.{Ticket}
use Rattle.txn_side.specs.Waiting.Awaited.{ReplyTo}
use Rattle.txn_side.specs.declared.turn.Posting.TheVariants.{Send}
use Rattle.txn_clients.proofs.clients.Clients.send.Goals as goal

pub returns-clause-posts : goal.returns-clause-posts
returns-clause-posts g c = on_ok c.post.result (λ e. record { posting = _; pushed = e; line_is = ap (λ (t : Ticket). t.line) c.ticket_of.ensures; unbeaten = ap (λ (t : Ticket). t.beat) c.ticket_of.ensures; awaited = ap (λ (t : Ticket). ReplyTo t.number) c.ticket_of.ensures }) c.post.ensures.posted

pub returns-clause-sent : goal.returns-clause-sent
returns-clause-sent g c = on_ok c.post.result (λ e. mailed_one c.args.turn.now.posted.items c.post.new.turn.posted.items _ (record { line = c.args.line; beat = false; number = c.args.number }) c.args.request (c.ticket_of.ensures, refl) e) c.post.ensures.posted

pub returns-clause-exact : goal.returns-clause-exact
returns-clause-exact g c = on_ok c.post.result (λ e. e ∙ ap (λ p. c.args.turn.now.posted.items ++ p ∷ []) (λ i. Send (c.ticket_of.ensures i) c.args.to c.args.request (c.new.ensures i))) c.post.ensures.posted
