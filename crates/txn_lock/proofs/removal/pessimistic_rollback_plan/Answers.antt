use Rattle.std.proofs.Common.{ap, ◌∙◌}
use Rattle.txn_kv.specs.declared.reply.locks.PessimisticRollbackResponse.{PessimisticRollbackResponse}
use Rattle.txn_kv.specs.declared.request.locks.PessimisticRollbackRequest.{PessimisticRollbackRequest}
use Rattle.txn_plan.specs.declared.dispatch.Dispatch.{Dispatch}
use Rattle.txn_lock.specs.Plans.{Removals}
use Rattle.txn_lock.proofs.Removing.{made_removal}
use Rattle.txn_lock.proofs.removal.pessimistic_rollback_plan.Goals as goal

pub returns : goal.returns
returns g c = made_removal c.args.lock.now c.encoded-request.result.context c.new-plan.result c.new.result
    c.new.ensures
    (ap (λ (s : Removals). s.inner.request) c.new-plan.ensures.value ∙ ap (λ (d : Dispatch PessimisticRollbackRequest PessimisticRollbackResponse). d.request) c.new-sent.ensures.value
    ∙ c.encoded-request.ensures.rest ∙ ap (λ (r : PessimisticRollbackRequest). record r { context = c.encoded-request.result.context }) c.in_ok-asked.ensures)
    (ap (λ (s : Removals). s.preserve_region_results) c.new-plan.ensures.value)
    (ap (λ (s : Removals). s.backoff) c.new-plan.ensures.value)
    c.new-plan.ensures.unbegun c.new-plan.ensures.ready
