use Rattle.std.proofs.Common.{refl, ap, sym}
use Rattle.txn_retry.specs.declared.remedy.Remedy.{Remedy}
use Rattle.txn_multi.proofs.Retrying.{keeps_at, may_refuse, same_task, step_stopped, Over-before, Over-mid, Over-stopped, on_ok_weaker}
use Rattle.txn_multi.proofs.Trying.{same_limit}
use Rattle.txn_multi.proofs.task.RegionTask.take_region_error.Goals as goal

pub returns-in_err-failure-clause-over : goal.returns-in_err-failure-clause-over
returns-in_err-failure-clause-over g c = Over-stopped _ _ _ _ _ _ _ g.met.P.Plan.lawful c.args.self.now _ refl refl (same_limit c.args.self.now.backoff _ c.args.self.now.before c.on_region_error-remedy.ensures.after) c.requires.stopped (step_stopped c.from_residual.result c.from_residual.ensures.0)

pub returns-clause-over : goal.returns-clause-over
returns-clause-over g c = Over-before
    (λ h f. may_refuse g.P.Plan.meaning g.P.Result.HasKeyErrors.key_errors_in g.P.Result.HasRegionError.region_error_in c.args.self.now _ c.args.out.now c.args.error _ _ h c.on_region_error-remedy.ensures.after (ap (λ (r : Remedy). r.next) (sym c.on_region_error-remedy.ensures.remedy)) c.in_ok-failure.ensures f)
    (Over-mid (same_task g.P.Plan.meaning g.P.Result.HasKeyErrors.key_errors_in g.P.Result.HasRegionError.region_error_in g.P.Shardable.IsPart g.P.Shardable.load g.P.Shardable.AreCut g.P.RegionPlan.most c.args.self.now _ refl refl (same_limit c.args.self.now.backoff _ c.args.self.now.before c.on_region_error-remedy.ensures.after)) c.heed.ensures.over)

pub returns-clause-keeps : goal.returns-clause-keeps
returns-clause-keeps g c = keeps_at _ _ _ _ _ _ _ c.args.self.now _ _ refl (same_limit c.args.self.now.backoff _ c.args.self.now.before c.on_region_error-remedy.ensures.after) c.heed.ensures.keeps

pub returns-clause-heeded : goal.returns-clause-heeded
returns-clause-heeded g c = on_ok_weaker c.heed.result (λ x. rw c.on_region_error-remedy.ensures.remedy at x) c.heed.ensures.heeded
