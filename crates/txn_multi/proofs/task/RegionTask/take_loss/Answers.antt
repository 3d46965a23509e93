use Rattle.std.proofs.Common.{ap, refl, sym, ◌∙◌}
use Rattle.txn_retry.specs.Remedy.{delay_ms}
use Rattle.txn_retry.specs.declared.remedy.Remedy.{Remedy}
use Rattle.txn_multi.proofs.Retrying.{keeps_at, loss_drops, loss_waits, may_lose, on_ok_weaker, same_task, Over-before, Over-mid}
use Rattle.txn_multi.proofs.Trying.{same_limit}
use Rattle.txn_multi.proofs.task.RegionTask.take_loss.Goals as goal

pub returns-clause-over : goal.returns-clause-over
returns-clause-over g c = Over-before
    (λ h f. may_lose g.P.Plan.meaning g.P.Result.HasKeyErrors.key_errors_in g.P.Result.HasRegionError.region_error_in c.args.self.now _ c.args.out.now c.args.ticket _ h c.on_loss-remedy.ensures.after (ap (λ (r : Remedy). r.next) (sym c.on_loss-remedy.ensures.remedy)) f)
    (Over-mid (same_task g.P.Plan.meaning g.P.Result.HasKeyErrors.key_errors_in g.P.Result.HasRegionError.region_error_in g.P.Shardable.IsPart g.P.Shardable.load g.P.Shardable.AreCut g.P.RegionPlan.most c.args.self.now _ refl refl (same_limit c.args.self.now.backoff _ c.args.self.now.before c.on_loss-remedy.ensures.after)) c.heed.ensures.over)

pub returns-clause-keeps : goal.returns-clause-keeps
returns-clause-keeps g c = keeps_at _ _ _ _ _ _ _ c.args.self.now _ _ refl (same_limit c.args.self.now.backoff _ c.args.self.now.before c.on_loss-remedy.ensures.after) c.heed.ensures.keeps

pub returns-clause-client : goal.returns-clause-client
returns-clause-client g c =
    on_ok_weaker c.heed.result
    (λ x. loss_drops g.C.PdClient.drops g.C.PdClient.leads c.args.self.now.region (delay_ms c.args.self.now.backoff) (rw c.on_loss-remedy.ensures.remedy at x))
    (c.heed.ensures.client (λ e. loss_waits (delay_ms c.args.self.now.backoff) (ap (λ (r : Remedy). r.next) (sym c.on_loss-remedy.ensures.remedy) ∙ e)))

pub returns-clause-heeded : goal.returns-clause-heeded
returns-clause-heeded g c = on_ok_weaker c.heed.result (λ x. rw c.on_loss-remedy.ensures.remedy at x) c.heed.ensures.heeded
