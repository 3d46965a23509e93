use Rattle.std.proofs.Common.{ap, refl, ◌∙◌}
use Rattle.txn_kv.specs.declared.reply.locks.CleanupResponse.{CleanupResponse}
use Rattle.txn_kv.specs.declared.request.locks.CleanupRequest.{CleanupRequest}
use Rattle.txn_plan.specs.declared.dispatch.Dispatch.{Dispatch}
use Rattle.txn_lock.specs.Plans.{Cleanups}
use Rattle.txn_lock.proofs.Cleaning.{made_cleanup}
use Rattle.txn_lock.proofs.cleanup.cleanup_plan.Goals as goal

pub returns : goal.returns
returns g c = made_cleanup c.args.lock.now c.encoded-request.result.context c.new-plan.result c.new-merged.result _ refl
    c.new-merged.ensures.inner
    (ap (λ (s : Cleanups). s.inner.inner.request) c.new-plan.ensures.value ∙ ap (λ (d : Dispatch CleanupRequest CleanupResponse). d.request) (c.new-locked.ensures.inner ∙ c.new-sent.ensures.value)
    ∙ c.encoded-request.ensures.rest ∙ ap (λ (r : CleanupRequest). record r { context = c.encoded-request.result.context }) c.in_ok-asked.ensures)
    (ap (λ (s : Cleanups). s.preserve_region_results) c.new-plan.ensures.value)
    (ap (λ (s : Cleanups). s.backoff) c.new-plan.ensures.value)
    (ap (λ (s : Cleanups). s.inner.backoff) c.new-plan.ensures.value ∙ c.new-locked.ensures.backoff)
    c.new-plan.ensures.unbegun c.new-plan.ensures.ready
