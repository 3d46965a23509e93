use Rattle.std.proofs.Common.{refl}
use Rattle.txn_multi.proofs.Retrying.{step_stopped, Over-slept, Over-stopped}
use Rattle.txn_multi.proofs.task.RegionTask.sleep.Goals as goal

pub returns-in_err-number-clause-over : goal.returns-in_err-number-clause-over
returns-in_err-number-clause-over g c = rw c.in_err-number.ensures.err (Over-stopped _ _ _ _ _ _ _ g.met.P.Plan.lawful c.args.self.now c.args.self.now refl refl refl c.requires.stopped (step_stopped c.from_residual.result c.from_residual.ensures.0))

pub returns-clause-over : goal.returns-clause-over
returns-clause-over g c = Over-slept _ _ _ _ _ _ _ g.met.P.Plan.lawful c.args.self.now c.args.ms c.in_ok-number.number c.in_ok-number.ensures.number c.in_ok-number.ensures.ok
