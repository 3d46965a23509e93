use Rattle.std.proofs.Common.{refl}
use Rattle.txn_machine.specs.Running.{lists_of}
use Rattle.txn_side.specs.Waiting.{NoneHeard}
use Rattle.txn_machine.proofs.Outs.{stays_same}
use Rattle.txn_machine.proofs.Staying.{quiet_out}
use Rattle.txn_machine.proofs.Arising.{connected_to}
use Rattle.txn_machine.proofs.machine.Machine.connect.Goals as goal

pub returns-clause-out : goal.returns-clause-out
returns-clause-out g c = quiet_out (g.S.ClientSide.waits c.args.self.now.clients) _ (lists_of g.S.ClientSide.sight c.args.self.now) _ c.called.result NoneHeard c.in_ok-connect.ensures.waits (stays_same NoneHeard c.args.self.now.post c.args.self.now.post refl) (cc)

pub returns-clause-arises : goal.returns-clause-arises
returns-clause-arises g c = connected_to (g.S.ClientSide.arises c.args.self.now.clients) (g.S.ClientSide.arises c.connect.new.self) (g.S.ClientSide.holds c.args.self.now.clients) (g.S.ClientSide.holds c.connect.new.self) c.called.result (lists_of g.S.ClientSide.sight c.args.self.now) (cc) c.in_ok-connect.ensures.arises
