use Rattle.txn_multi.proofs.MultiSteps.{multi_worked}
use Rattle.txn_plan.specs.Touch.{touch}
use Rattle.txn_tasks.specs.Tasks.{tasks_turn}
use Rattle.txn_multi.proofs.multi_region.RetryableMultiRegion.tell_tasks.Goals as goal

pub tell-turn-requires-clause-ready : goal.tell-turn-requires-clause-ready
tell-turn-requires-clause-ready g c = let stands = rw c.in-Some.is at c.requires.tasks in stands.0

pub returns : goal.returns
returns g c =
    let stands = rw c.in-Some.is at c.requires.tasks in
    multi_worked g.P.Plan.meaning g.P.Result.HasKeyErrors.key_errors_in g.P.Result.HasRegionError.region_error_in g.P.Shardable.IsPart g.P.Shardable.load g.P.Shardable.AreCut g.P.RegionPlan.most (touch g.C.PdClient.looked g.C.PdClient.learns g.C.PdClient.leads g.C.PdClient.drops) (g.P.Plan.touches (touch g.C.PdClient.looked g.C.PdClient.learns g.C.PdClient.leads g.C.PdClient.drops)) c.args.arrival c.args.self.now c.after_tasks.new.self.stage (tasks_turn c.tell-turn.result) c.in-Some.is c.requires.inner stands.1 c.tell-turn.ensures c.after_tasks.ensures.state c.after_tasks.ensures.after
