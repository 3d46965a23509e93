use Rattle.std.proofs.Common.{subst, sym}
use Rattle.txn_history.specs.Arrivals.{MayArrive}
use Rattle.txn_clients.proofs.Whole.{LineSteps, arrives_so, line_whole, told_line}
use Rattle.txn_clients.proofs.clients.Clients.hear.Goals as goal

pub tell_line-requires-clause-arrives : goal.tell_line-requires-clause-arrives
tell_line-requires-clause-arrives g c = subst MayArrive (sym c.arrival_of-arrival.ensures) (arrives_so c.args.ticket.number c.args.what)

pub returns : goal.returns
returns g c =
    told_line _ c.args.self.now c.send_group.new.self c.args.ticket c.args.client c.requires.line c.requires.ready c.send_group.new.turn c.args.what c.requires.other
    (subst (λ a. LineSteps g.P.Plans.ways a c.args.ticket.line c.args.client c.args.self.now c.send_group.new.self c.send_group.new.turn) c.arrival_of-arrival.ensures
    (line_whole _ c.args.self.now c.tell_line.new.self c.send_group.new.self c.new-turn.result c.tell_line.new.turn c.send_group.new.turn c.args.client c.new-turn.ensures.posted c.new-turn.ensures.ended c.requires.ready
    c.in_ok-tell_line.ensures.advances c.in_ok-tell_line.ensures.ready c.in_ok-tell_line.ensures.runs
    c.in_ok-send_group.ensures.advances c.in_ok-send_group.ensures.ended c.in_ok-send_group.ensures.rows c.in_ok-send_group.ensures.waits c.in_ok-send_group.ensures.leads
    c.args.ticket.line c.arrival_of-arrival.result c.in_ok-tell_line.ensures.names c.in_ok-tell_line.ensures.waits c.in_ok-tell_line.ensures.accounts c.in_ok-tell_line.ensures.leads))
