use Rattle.txn_clients.proofs.Sending.{has_out}
use Rattle.txn_clients.proofs.clients.Clients.is_group.Goals as goal

pub returns-in-Some-clause-is : goal.returns-in-Some-clause-is
returns-in-Some-clause-is g c is = has_out c.args.self.now c.args.client c.args.ticket c.deref.result.now c.in-Some.state.now c.deref.ensures.value c.in-Some.ensures.lookup.3.0 c.in-Some.ensures.lookup.1 (c.is_group.ensures.is is)
