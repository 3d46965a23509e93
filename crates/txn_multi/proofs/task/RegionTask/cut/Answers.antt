use Rattle.std.proofs.Common.{refl}
use Rattle.txn_multi.proofs.Costs.{costs_off_search, costs_on_search, costs_over_search}
use Rattle.txn_multi.proofs.Retrying.{begun_running, over_off_search, over_on_search, over_over_search, step_stopped, Over-stopped}
use Rattle.txn_multi.proofs.task.RegionTask.cut.Goals as goal

pub returns-in_err-job-clause-over : goal.returns-in_err-job-clause-over
returns-in_err-job-clause-over g c = Over-stopped _ _ _ _ _ _ _ g.met.P.Plan.lawful c.args.self.now c.args.self.now refl refl refl c.requires.stopped (step_stopped c.from_residual.result c.from_residual.ensures.0)

pub returns-in_err-start-clause-over : goal.returns-in_err-start-clause-over
returns-in_err-start-clause-over g c = over_off_search _ _ _ _ _ _ _ g.met.P.Plan.lawful c.args.self.now c.args.self.now c.new-cutting.result c.start.new.self c.new-cutting.ensures.unbegun refl refl refl c.requires.stopped (step_stopped c.from_residual-in_err-start.result c.from_residual-in_err-start.ensures.0) c.in_err-start.ensures.tells

pub returns-in_err-start-clause-costs : goal.returns-in_err-start-clause-costs
returns-in_err-start-clause-costs g c = costs_off_search _ _ _ _ _ _ _ c.args.self.now c.args.self.now c.new-cutting.result c.start.new.self refl refl (step_stopped c.from_residual-in_err-start.result c.from_residual-in_err-start.ensures.0) c.in_err-start.ensures.counts

pub returns-in-Waiting-clause-over : goal.returns-in-Waiting-clause-over
returns-in-Waiting-clause-over g c = over_on_search _ _ _ _ _ _ _ g.met.P.Plan.lawful c.args.self.now c.new-cutting.result c.start.new.self c.new-cutting.ensures.unbegun (begun_running c.new-cutting.ensures.unbegun.phase (rw c.in-Waiting.is at c.in_ok-start.ensures.goes)) (rw c.in-Waiting.is at c.in_ok-start.ensures.tells)

pub returns-in-Waiting-clause-costs : goal.returns-in-Waiting-clause-costs
returns-in-Waiting-clause-costs g c = costs_on_search _ _ _ _ _ _ _ c.args.self.now c.new-cutting.result c.start.new.self (rw c.in-Waiting.is at c.in_ok-start.ensures.counts)

pub returns-in-Done-clause-over : goal.returns-in-Done-clause-over
returns-in-Done-clause-over g c = over_over_search _ _ _ _ _ _ _ g.met.P.Plan.lawful c.args.self.now c.new-cutting.result c.start.new.self c.new-cutting.ensures.unbegun (rw c.in-Done.is at c.in_ok-start.ensures.tells) (c.take_parts.ensures.over c.start.new.out)

pub returns-in-Done-clause-costs : goal.returns-in-Done-clause-costs
returns-in-Done-clause-costs g c = costs_over_search _ _ _ _ _ _ _ c.args.self.now c.new-cutting.result c.start.new.self (rw c.in-Done.is at c.in_ok-start.ensures.counts) (c.take_parts.ensures.costs c.start.new.out)

pub returns-in_err-job-clause-changed : goal.returns-in_err-job-clause-changed
returns-in_err-job-clause-changed g c = g.met.C.PdClient.looked_same _
