use Rattle.std.proofs.Common.{ap, sym, ◌∙◌}
use Rattle.txn_history.specs.Phase.{unheard}
use Rattle.txn_multi.specs.Multi.{multi_phase}
use Rattle.txn_multi.specs.declared.multi_stage.MultiStage.{MultiStage}
use Rattle.txn_multi.proofs.MultiSteps.{multi_begins, multi_begun_before}
use Rattle.txn_plan.specs.Touch.{touch}
use Rattle.txn_multi.proofs.multi_region.RetryableMultiRegionPlan.start.Goals as goal

pub returns-in-Fresh : goal.returns-in-Fresh
returns-in-Fresh g c = multi_begins g.P.Plan.meaning g.P.Result.HasKeyErrors.key_errors_in g.P.Result.HasRegionError.region_error_in g.P.Shardable.IsPart g.P.Shardable.load g.P.Shardable.AreCut g.P.RegionPlan.most (touch g.C.PdClient.looked g.C.PdClient.learns g.C.PdClient.leads g.C.PdClient.drops) (g.P.Plan.touches (touch g.C.PdClient.looked g.C.PdClient.learns g.C.PdClient.leads g.C.PdClient.drops)) (sym c.replace.ensures.value ∙ c.in-Fresh.is) c.begin.ensures.begins c.begin.ensures.client c.begin.ensures.ready c.begin.ensures.numbers

pub returns-in_default : goal.returns-in_default
returns-in_default g c =
    let s = c.args.self.now in
    let at = c.replace.ensures.value in
    multi_begun_before g.P.Plan.meaning g.P.Result.HasKeyErrors.key_errors_in g.P.Result.HasRegionError.region_error_in g.P.Shardable.IsPart g.P.Shardable.load g.P.Shardable.AreCut g.P.RegionPlan.most (touch g.C.PdClient.looked g.C.PdClient.learns g.C.PdClient.leads g.C.PdClient.drops) (g.P.Plan.touches (touch g.C.PdClient.looked g.C.PdClient.learns g.C.PdClient.leads g.C.PdClient.drops)) g.met.P.Plan.lawful (g.met.C.PdClient.looked_same _)
    (c.stay.ensures.state ∙ ap (λ (x : MultiStage _ _ _). record s { stage = x }) at) (λ e. c.in_default.not-Fresh (at ∙ e))
    (c.stay.ensures.turn ∙ ap (λ (x : MultiStage _ _ _). unheard (multi_phase x)) at) c.requires.ready c.requires.numbers
