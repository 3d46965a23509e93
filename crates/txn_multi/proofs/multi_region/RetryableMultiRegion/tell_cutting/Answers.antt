use Rattle.txn_history.specs.Turn.{turn_of}
use Rattle.txn_multi.proofs.MultiSteps.{multi_seeks}
use Rattle.txn_plan.specs.Touch.{touch}
use Rattle.txn_multi.proofs.multi_region.RetryableMultiRegion.tell_cutting.Goals as goal

pub returns : goal.returns
returns g c = multi_seeks g.P.Plan.meaning g.P.Result.HasKeyErrors.key_errors_in g.P.Result.HasRegionError.region_error_in g.P.Shardable.IsPart g.P.Shardable.load g.P.Shardable.AreCut g.P.RegionPlan.most (touch g.C.PdClient.looked g.C.PdClient.learns g.C.PdClient.leads g.C.PdClient.drops) (g.P.Plan.touches (touch g.C.PdClient.looked g.C.PdClient.learns g.C.PdClient.leads g.C.PdClient.drops)) c.args.arrival (turn_of c.tell-turn.result) c.requires.stopped c.requires.inner c.requires.none c.requires.running c.tell-turn.ensures c.after_cut.ensures.after c.after_cut.ensures.client c.after_cut.ensures.ready c.after_cut.ensures.numbers
