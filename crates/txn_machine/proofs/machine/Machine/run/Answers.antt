use Rattle.std.proofs.Common.{refl}
use Rattle.txn_machine.specs.Running.{lists_of}
use Rattle.txn_machine.proofs.Staying.{rest_out}
use Rattle.txn_machine.proofs.machine.Machine.run.Goals as goal

pub returns-in-Nothing-clause-out : goal.returns-in-Nothing-clause-out
returns-in-Nothing-clause-out g c = rest_out (g.S.ClientSide.waits c.args.self.now.clients) (lists_of g.S.ClientSide.sight c.args.self.now) _ c.outright.result refl refl c.outright.ensures.nothing
