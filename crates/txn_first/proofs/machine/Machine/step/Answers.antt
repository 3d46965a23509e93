use Rattle.txn_first.proofs.Machines.{step_stands}
use Rattle.txn_first.proofs.machine.Machine.step.Goals as goal

pub returns-in-Ok-clause-stands : goal.returns-in-Ok-clause-stands
returns-in-Ok-clause-stands c lines s good =
    step_stands c.args.self.now _ c.args.line lines c.in-Ok.ensures.lists c.in-Ok.ensures.kinds good s (record { whole = c.if-self.false })
