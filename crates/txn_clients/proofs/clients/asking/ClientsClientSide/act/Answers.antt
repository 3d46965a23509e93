use Rattle.std.proofs.Common.{sym}
use Rattle.txn_clients.proofs.Whole.{used_nobody, used_whole}
use Rattle.txn_clients.proofs.clients.asking.ClientsClientSide.act.Goals as goal

pub returns-in_ok-call_transaction-in-Some : goal.returns-in_ok-call_transaction-in-Some
returns-in_ok-call_transaction-in-Some g c =
    let turn = c.in_ok-call_transaction-in-Some.ensures in
    used_whole g.P.Plans.ways c.args.self.now c.call_transaction.new.self c.in_ok-call_transaction-in-Some.field-0 c.requires.ready turn.ready turn.alone turn.names
    c.args.transaction c.in-Some.client c.args.act c.in-Some.ensures.client (sym c.in-Some.ensures.free) turn.turn turn.steps turn.takes turn.leads

pub returns-in-None : goal.returns-in-None
returns-in-None g c = used_nobody g.P.Plans.ways c.args.self.now c.args.transaction c.args.act c.requires.ready (sym c.in-None.ensures.free)
