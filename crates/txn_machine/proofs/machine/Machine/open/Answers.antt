use Rattle.txn_machine.specs.Running.{lists_of}
use Rattle.txn_machine.proofs.Staying.{opened_out}
use Rattle.txn_machine.proofs.machine.Machine.open.Goals as goal

pub returns-clause-out : goal.returns-clause-out
returns-clause-out g c = opened_out (g.S.ClientSide.waits c.args.self.now.clients) _ (lists_of g.S.ClientSide.sight c.args.self.now) _ c.in_ok-open.ensures c.in_ok-open-2.ensures.waits
