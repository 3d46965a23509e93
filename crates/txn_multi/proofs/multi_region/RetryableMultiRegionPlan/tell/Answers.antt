use Rattle.std.proofs.Common.{ap, sym, ◌∙◌}
use Rattle.txn_history.specs.Arrivals.{awaited_as}
use Rattle.txn_history.specs.Phase.{unheard}
use Rattle.txn_multi.specs.Multi.{multi_phase}
use Rattle.txn_multi.specs.Task.{attempts_left}
use Rattle.txn_multi.specs.declared.multi_stage.MultiStage.{MultiStage}
use Rattle.txn_multi.specs.declared.multi_stage.MultiStage.TheVariants as stage
use Rattle.txn_multi.proofs.Multis.{not_waiting}
use Rattle.txn_multi.proofs.MultiSteps.{multi_at, multi_deaf}
use Rattle.txn_plan.specs.Touch.{touch}
use Rattle.txn_multi.proofs.multi_region.RetryableMultiRegionPlan.tell.Goals as goal

pub returns-in-Cutting : goal.returns-in-Cutting
returns-in-Cutting g c = multi_at g.P.Plan.meaning g.P.Result.HasKeyErrors.key_errors_in g.P.Result.HasRegionError.region_error_in g.P.Shardable.IsPart g.P.Shardable.load g.P.Shardable.AreCut g.P.RegionPlan.most (touch g.C.PdClient.looked g.C.PdClient.learns g.C.PdClient.leads g.C.PdClient.drops) (g.P.Plan.touches (touch g.C.PdClient.looked g.C.PdClient.learns g.C.PdClient.leads g.C.PdClient.drops)) c.args.self.now (stage.Cutting c.in-Cutting.cutting) (sym c.replace.ensures.value ∙ c.in-Cutting.is) c.tell_cutting.ensures

pub returns-in-Running : goal.returns-in-Running
returns-in-Running g c = multi_at g.P.Plan.meaning g.P.Result.HasKeyErrors.key_errors_in g.P.Result.HasRegionError.region_error_in g.P.Shardable.IsPart g.P.Shardable.load g.P.Shardable.AreCut g.P.RegionPlan.most (touch g.C.PdClient.looked g.C.PdClient.learns g.C.PdClient.leads g.C.PdClient.drops) (g.P.Plan.touches (touch g.C.PdClient.looked g.C.PdClient.learns g.C.PdClient.leads g.C.PdClient.drops)) c.args.self.now stage.Running (sym c.replace.ensures.value ∙ c.in-Running.is) c.tell_tasks.ensures

pub returns-in_default : goal.returns-in_default
returns-in_default g c =
    let s = c.args.self.now in
    let at = c.replace.ensures.value in
    multi_deaf g.P.Plan.meaning g.P.Result.HasKeyErrors.key_errors_in g.P.Result.HasRegionError.region_error_in g.P.Shardable.IsPart g.P.Shardable.load g.P.Shardable.AreCut g.P.RegionPlan.most (touch g.C.PdClient.looked g.C.PdClient.learns g.C.PdClient.leads g.C.PdClient.drops) (g.P.Plan.touches (touch g.C.PdClient.looked g.C.PdClient.learns g.C.PdClient.leads g.C.PdClient.drops)) g.met.P.Plan.lawful c.args.arrival (g.met.C.PdClient.looked_same _)
    (c.stay.ensures.state ∙ ap (λ (x : MultiStage _ _ _). record s { stage = x }) at)
    (not_waiting g.P.Plan.meaning g.P.Result.HasKeyErrors.key_errors_in g.P.Result.HasRegionError.region_error_in g.P.Shardable.IsPart g.P.Shardable.load g.P.Shardable.AreCut g.P.RegionPlan.most s.inner (attempts_left s.backoff) s.stage s.tasks (awaited_as c.args.arrival) (λ cut e. c.in_default.not-Cutting cut (at ∙ e)) (λ e. c.in_default.not-Running (at ∙ e)))
    (c.stay.ensures.turn ∙ ap (λ (x : MultiStage _ _ _). unheard (multi_phase x)) at) c.requires.callable.ready c.requires.callable.numbers
