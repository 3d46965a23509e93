use Rattle.txn_multi.proofs.Retrying.{step_stopped}
use Rattle.txn_multi.proofs.TaskSteps.{search_ends, search_stops, search_waits}
use Rattle.txn_multi.proofs.task.RegionTask.tell_cutting.Goals as goal

pub take_parts-requires-clause-parts : goal.take_parts-requires-clause-parts
take_parts-requires-clause-parts g c = let s = rw c.in-Done.is at c.in_ok-tell.ensures in rw c.requires.same at s.parts

pub returns-in_err-tell : goal.returns-in_err-tell
returns-in_err-tell g c = search_stops _ _ _ _ _ _ _ g.met.P.Plan.lawful c.args.arrival c.args.self.now c.args.cutting c.tell.new.self c.requires.job c.requires.running c.requires.stopped (step_stopped c.from_residual.result c.from_residual.ensures.0) c.in_err-tell.ensures

pub returns-in-Waiting : goal.returns-in-Waiting
returns-in-Waiting g c = search_waits _ _ _ _ _ _ _ g.met.P.Plan.lawful c.args.arrival c.args.self.now c.args.cutting c.tell.new.self c.requires.job c.requires.same c.requires.running (rw c.in-Waiting.is at c.in_ok-tell.ensures)

pub returns-in-Done : goal.returns-in-Done
returns-in-Done g c = search_ends _ _ _ _ _ _ _ g.met.P.Plan.lawful c.args.arrival c.args.self.now c.args.cutting c.tell.new.self c.in-Done.answer c.requires.running (rw c.in-Done.is at c.in_ok-tell.ensures)
    (c.take_parts.ensures.over c.tell.new.out) (c.take_parts.ensures.costs c.tell.new.out) c.take_parts.ensures.keeps c.take_parts.ensures.off c.take_parts.ensures.ready
