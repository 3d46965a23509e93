use Rattle.std.proofs.Common.{◌∙◌, ap, subst, sym}
use Rattle.txn_history.specs.Arrivals.{awaited_as}
use Rattle.txn_history.specs.Phase.{unheard}
use Rattle.txn_plan.specs.Touch.{touch}
use Rattle.txn_multi.specs.Task.{stage_phase, StageWaits}
use Rattle.txn_multi.specs.declared.stage.Stage.TheVariants as stage
use Rattle.txn_multi.proofs.Retrying.{idle_at}
use Rattle.txn_multi.proofs.TaskSteps.{task_at, task_deaf}
use Rattle.txn_multi.proofs.task.RegionTaskTask.tell.Goals as goal

pub returns-in-Running : goal.returns-in-Running
returns-in-Running g c =
    let t = task_at _ _ _ _ _ _ _ c.args.self.now (stage.Running c.in-Running.plan) (sym c.replace.ensures.value ∙ c.in-Running.is) c.tell_plan.ensures in
    record { steps = t.steps; keeps = t.keeps; off = t.off }

pub returns-in-Sleeping : goal.returns-in-Sleeping
returns-in-Sleeping g c =
    let t = task_at _ _ _ _ _ _ _ c.args.self.now (stage.Sleeping c.in-Sleeping.number) (sym c.replace.ensures.value ∙ c.in-Sleeping.is) c.tell_sleeping.ensures in
    record { steps = t.steps; keeps = t.keeps; off = t.off }

pub returns-in-Cutting : goal.returns-in-Cutting
returns-in-Cutting g c =
    let t = task_at _ _ _ _ _ _ _ c.args.self.now (stage.Cutting c.in-Cutting.cutting) (sym c.replace.ensures.value ∙ c.in-Cutting.is) c.tell_cutting.ensures in
    record { steps = t.steps; keeps = t.keeps; off = t.off }

pub returns-in_default : goal.returns-in_default
returns-in_default g c =
    let s = c.args.self.now in
    let at = c.replace.ensures.value in
    let none = subst (λ x. StageWaits g.P.Plan.meaning x (awaited_as c.args.arrival) → ⊥) at (idle_at g.P.Plan.meaning c.replace.result c.in_default.not-Running c.in_default.not-Sleeping c.in_default.not-Cutting (awaited_as c.args.arrival)) in
    let t = task_deaf g.P.Plan.meaning g.P.Result.HasKeyErrors.key_errors_in g.P.Result.HasRegionError.region_error_in g.P.Shardable.IsPart g.P.Shardable.load g.P.Shardable.AreCut g.P.RegionPlan.most g.met.P.Plan.lawful {touches = g.P.Plan.touches (touch g.C.PdClient.looked g.C.PdClient.learns g.C.PdClient.leads g.C.PdClient.drops)} c.args.arrival s (c.stay.ensures.state ∙ ap (λ x. record s { stage = x }) at) c.requires.callable.ready c.requires.callable.numbers none (c.stay.ensures.turn ∙ ap (λ x. unheard (stage_phase x)) at) in
    record { steps = t.steps; keeps = t.keeps; off = t.off }
