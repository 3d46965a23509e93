use Rattle.std.proofs.Common.{◌∙◌, Some, ap, refl, set, sym}
use Rattle.txn_clients.specs.Clients.{asks_at}
use Rattle.txn_clients.proofs.Sending.{same_asks, sends_one}
use Rattle.txn_clients.proofs.Tables.{same_clients, same_groups}
use Rattle.txn_clients.proofs.Timestamps.{first_asks}
use Rattle.txn_clients.proofs.Grouping.{group_sent}
use Rattle.txn_clients.proofs.Hearing.{group_posted}
use Rattle.txn_clients.specs.Waiting.{Book}
use Rattle.txn_clients.proofs.clients.Clients.send_request.Goals as goal

pub returns-clause-advances : goal.returns-clause-advances
returns-clause-advances g c =
    let posted = c.in_ok-post.ensures in
    let asks = asks_at c.post.new.self c.args.client in
    sends_one c.args.self.now c.set_group.new.self c.args.turn.now c.post.new.turn _ (record { ticket = c.in_ok-ticket.ticket; askers = asks }) c.args.client c.in-Some.line.now
    posted.posted (ap (λ v. v.items) posted.ended) c.in_ok-ticket.ensures.line c.in_ok-ticket.ensures.beat c.in_ok-ticket.ensures.live c.in_ok-ticket.ensures.next
    (first_asks c.requires.group.0 c.in-Some.line.now c.in_ok-ticket.ticket.line c.args.group.request c.args.group.askers c.as_slice.result.now c.as_slice.ensures c.in-Some.ensures.value c.in_ok-ticket.ensures.line c.requires.group.1)
    c.requires.lines (refl, c.requires.askers ∙ sym (same_asks c.args.self.now c.post.new.self c.args.client posted.clients), c.in_ok-ticket.ensures.beat) c.requires.client
    (c.set_group.ensures.crashed ∙ same_clients c.args.self.now c.post.new.self posted.clients)
    (c.set_group.ensures.groups ∙ ap (λ gs. set gs c.args.client (Some (record { ticket = c.in_ok-ticket.ticket; askers = asks }))) (same_groups c.args.self.now c.post.new.self posted.clients))
    (c.set_group.ensures.rows ∙ posted.rows) (c.set_group.ensures.nexts ∙ posted.nexts)

pub returns-clause-sends : goal.returns-clause-sends
returns-clause-sends g c =
    let posted = c.in_ok-post.ensures in
    group_sent c.args.self.now c.post.new.self c.set_group.new.self c.args.client c.in-Some.line.now c.in_ok-ticket.ticket _ c.args.turn.now.posted.items c.post.new.turn.posted.items
    c.in_ok-ticket.ensures.is c.in_ok-ticket.ensures.own c.in_ok-ticket.ensures.line c.in_ok-ticket.ensures.beat c.in_ok-ticket.ensures.next posted.posted posted.nexts posted.asks posted.clients posted.rows c.set_group.ensures.nexts c.set_group.ensures.rows c.set_group.ensures.ticket

pub returns-clause-groups : goal.returns-clause-groups
returns-clause-groups g c =
    let posted = c.in_ok-post.ensures in
    let asks = asks_at c.post.new.self c.args.client in
    group_posted c.args.self.now c.set_group.new.self c.args.client (record { ticket = c.in_ok-ticket.ticket; askers = asks }) c.args.turn.now.posted.items c.post.new.turn.posted.items _ posted.posted
    (refl, c.requires.askers ∙ sym (same_asks c.args.self.now c.post.new.self c.args.client posted.clients), c.in_ok-ticket.ensures.beat) c.requires.client
    (c.set_group.ensures.groups ∙ ap (λ gs. set gs c.args.client (Some (record { ticket = c.in_ok-ticket.ticket; askers = asks }))) (same_groups c.args.self.now c.post.new.self posted.clients))

pub returns-clause-exact : goal.returns-clause-exact
returns-clause-exact g c = record { ticket = c.in_ok-ticket.ticket; kept = ap (λ (b : Book). b.ticket) c.set_group.ensures.ticket.book; posted = c.in_ok-post.ensures.posted }
