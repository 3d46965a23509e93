use Rattle.std.proofs.Common.{refl, sym, ◌∙◌}
use Rattle.txn_clients.specs.Clients.{crashed_of}
use Rattle.txn_clients.proofs.Listening.{within}
use Rattle.txn_clients.proofs.Whole.{for_line, told_nobody}
use Rattle.txn_clients.proofs.clients.asking.ClientsClientSide.tell.Goals as goal

pub returns-then-ticket : goal.returns-then-ticket
returns-then-ticket g c = told_nobody _ c.args.self.now c.args.ticket c.new.result c.new.ensures.posted c.new.ensures.ended c.requires.ready c.args.what (λ live. c.if-ticket.true)

pub returns-in-None : goal.returns-in-None
returns-in-None g c = told_nobody _ c.args.self.now c.args.ticket c.new-in-None.result c.new-in-None.ensures.posted c.new-in-None.ensures.ended c.requires.ready c.args.what (λ live. let gone = c.in-None.ensures.live ∙ live in absurd (cc))

pub tell_group-requires-clause-line : goal.tell_group-requires-clause-line
tell_group-requires-clause-line g c = record { call = c.if-ticket.false; live = sym c.in-Some.ensures.live; own = c.in-Some.ensures.client; there = within (crashed_of c.args.self.now) c.in-Some.client c.in-Some.ensures.there }

pub hear-requires-clause-line : goal.hear-requires-clause-line
hear-requires-clause-line g c = record { call = c.if-ticket.false; live = sym c.in-Some.ensures.live; own = c.in-Some.ensures.client; there = within (crashed_of c.args.self.now) c.in-Some.client c.in-Some.ensures.there }

pub tell_group-requires-clause-out : goal.tell_group-requires-clause-out
tell_group-requires-clause-out g c = c.if-is_group.ensures.is refl

pub hear-requires-clause-other : goal.hear-requires-clause-other
hear-requires-clause-other g c = for_line g.P.Plans.ways c.args.self.now c.in-Some.client c.args.ticket c.args.what (c.if-is_group.ensures.not refl)
