use Rattle.txn_multi.proofs.Retrying.{step_stopped}
use Rattle.txn_multi.proofs.TaskSteps.{plan_ends, plan_stops, plan_waits}
use Rattle.txn_multi.proofs.task.RegionTask.tell_plan.Goals as goal

pub returns-in_err-tell : goal.returns-in_err-tell
returns-in_err-tell g c = plan_stops _ _ _ _ _ _ _ g.met.P.Plan.lawful c.args.arrival c.args.self.now c.args.plan c.tell.new.self c.requires.job c.requires.plan (g.met.P.RegionPlan.uncut c.tell.new.self) c.requires.stopped (step_stopped c.from_residual.result c.from_residual.ensures.0) c.in_err-tell.ensures

pub returns-in-Waiting : goal.returns-in-Waiting
returns-in-Waiting g c = plan_waits _ _ _ _ _ _ _ g.met.P.Plan.lawful c.args.arrival c.args.self.now c.args.plan c.tell.new.self c.requires.job c.requires.plan (g.met.P.RegionPlan.uncut c.tell.new.self) (rw c.in-Waiting.is at c.in_ok-tell.ensures)

pub returns-in-Done : goal.returns-in-Done
returns-in-Done g c = plan_ends _ _ _ _ _ _ _ g.met.P.Plan.lawful c.args.arrival c.args.self.now c.args.plan c.tell.new.self c.in-Done.answer c.take_answer.result c.requires.plan (g.met.P.RegionPlan.uncut c.tell.new.self) (rw c.in-Done.is at c.in_ok-tell.ensures)
    c.take_answer.ensures.over c.take_answer.ensures.costs c.take_answer.ensures.keeps c.take_answer.ensures.heeded c.take_answer.ensures.off c.take_answer.ensures.ready c.take_answer.ensures.numbers
