use Rattle.std.proofs.Common.{refl}
use Rattle.txn_multi.proofs.Costs.{Costs-paid}
use Rattle.txn_multi.proofs.Retrying.{on_ok, step_stopped, Over-before, Over-stopped}
use Rattle.txn_multi.proofs.task.RegionTask.heed.Goals as goal

pub returns-in_err-change-clause-over : goal.returns-in_err-change-clause-over
returns-in_err-change-clause-over g c = Over-stopped _ _ _ _ _ _ _ g.met.P.Plan.lawful c.args.self.now c.args.self.now refl refl refl c.requires.stopped (step_stopped c.from_residual.result c.from_residual.ensures.0)

pub returns-in-AtOnce-clause-over : goal.returns-in-AtOnce-clause-over
returns-in-AtOnce-clause-over g c = Over-before (λ h f. rw c.in-AtOnce.is at f) c.cut.ensures.over

pub returns-in-AtOnce-clause-costs : goal.returns-in-AtOnce-clause-costs
returns-in-AtOnce-clause-costs g c = Costs-paid c.cut.ensures.costs

pub returns-in-Sleep-clause-over : goal.returns-in-Sleep-clause-over
returns-in-Sleep-clause-over g c = Over-before (λ h f. rw c.in-Sleep.is at f) c.sleep.ensures.over

pub returns-in-End-clause-over : goal.returns-in-End-clause-over
returns-in-End-clause-over g c = Over-before (λ h f. rw c.in-End.is at f) (c.end.ensures.over c.args.out.now)

pub returns-in-EndWithoutEpoch-clause-over : goal.returns-in-EndWithoutEpoch-clause-over
returns-in-EndWithoutEpoch-clause-over g c = Over-before (λ h f. rw c.in-EndWithoutEpoch.is at f) (c.end-in-EndWithoutEpoch.ensures.over c.args.out.now)

pub returns-in-Sleep-clause-client : goal.returns-in-Sleep-clause-client
returns-in-Sleep-clause-client g c waits = on_ok c.sleep.result c.in_ok-change.ensures

pub returns-in-End-clause-client : goal.returns-in-End-clause-client
returns-in-End-clause-client g c waits = on_ok c.end.result c.in_ok-change.ensures

pub returns-in-EndWithoutEpoch-clause-client : goal.returns-in-EndWithoutEpoch-clause-client
returns-in-EndWithoutEpoch-clause-client g c waits = on_ok c.end-in-EndWithoutEpoch.result c.in_ok-change.ensures

pub returns-in-AtOnce-clause-heeded : goal.returns-in-AtOnce-clause-heeded
returns-in-AtOnce-clause-heeded g c = on_ok c.cut.result record { told = c.change.new.pd; changed = c.in_ok-change.ensures; looked = c.cut.ensures.changed }

pub returns-in-Sleep-clause-heeded : goal.returns-in-Sleep-clause-heeded
returns-in-Sleep-clause-heeded g c = on_ok c.sleep.result record { told = c.change.new.pd; changed = c.in_ok-change.ensures; looked = g.met.C.PdClient.looked_same _ }

pub returns-in-End-clause-heeded : goal.returns-in-End-clause-heeded
returns-in-End-clause-heeded g c = on_ok c.end.result record { told = c.change.new.pd; changed = c.in_ok-change.ensures; looked = g.met.C.PdClient.looked_same _ }

pub returns-in-EndWithoutEpoch-clause-heeded : goal.returns-in-EndWithoutEpoch-clause-heeded
returns-in-EndWithoutEpoch-clause-heeded g c = on_ok c.end-in-EndWithoutEpoch.result record { told = c.change.new.pd; changed = c.in_ok-change.ensures; looked = g.met.C.PdClient.looked_same _ }
