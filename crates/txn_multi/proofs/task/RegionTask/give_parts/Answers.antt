use Rattle.std.proofs.Common.{refl, arith}
use Rattle.txn_multi.proofs.Costs.{costs_given}
use Rattle.txn_multi.proofs.Retrying.{keeps_given, over_given, step_stopped, Over-stopped}
use Rattle.txn_multi.proofs.task.RegionTask.give_parts.Goals as goal

pub returns-in_err-tasks-clause-over : goal.returns-in_err-tasks-clause-over
returns-in_err-tasks-clause-over g c o = Over-stopped _ _ _ _ _ _ _ g.met.P.Plan.lawful c.args.self.now _ refl refl refl c.requires.stopped (step_stopped c.from_residual.result c.from_residual.ensures.0)

pub returns-clause-over : goal.returns-clause-over
returns-clause-over g c o = over_given _ _ _ _ _ _ _ c.args.self.now _ c.args.self.now.alloc c.args.parts.items c.in_ok-tasks.tasks c.requires.parts c.in_ok-tasks.ensures

pub returns-clause-costs : goal.returns-clause-costs
returns-clause-costs g c o = costs_given _ _ _ _ _ _ _ c.args.self.now _ (let x : _ = c.max-self.ensures in omega arith)

pub returns-clause-keeps : goal.returns-clause-keeps
returns-clause-keeps g c = keeps_given _ _ _ _ _ _ _ g.met.P.Shardable.part_of_part c.args.self.now c.max-self.result c.args.self.now.alloc c.args.parts.items c.in_ok-tasks.tasks c.requires.parts c.in_ok-tasks.ensures (let x : _ = c.max-self.ensures in let y : _ = c.len.ensures in omega arith)
