use Rattle.std.proofs.Common.{refl, subst, sym}
use Rattle.txn_side.specs.Sight.{IsNext}
use Rattle.txn_clients.specs.Clients.{sight_of}
use Rattle.txn_clients.proofs.Telling.{live_line, ticket_next}
use Rattle.txn_clients.proofs.clients.Clients.next_ticket.Goals as goal

pub returns-clause-next : goal.returns-clause-next
returns-clause-next g c = subst (IsNext (sight_of c.args.self.now).nexts) (sym c.ticket_of.ensures)
    (ticket_next c.args.self.now c.args.line c.index.result.now (live_line (sight_of c.args.self.now) c.args.line (c.if-not-is_of.ensures.live refl)) c.index.ensures)
