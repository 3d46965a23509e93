use Rattle.std.proofs.Common.{ap, ◌∙◌}
use Rattle.txn_kv.specs.declared.reply.commits.PrewriteResponse.{PrewriteResponse}
use Rattle.txn_kv.specs.declared.request.commits.PrewriteRequest.{PrewriteRequest}
use Rattle.txn_plan.specs.declared.dispatch.Dispatch.{Dispatch}
use Rattle.txn_commit.proofs.Stages.{same_options}
use Rattle.txn_commit_plans.specs.Kinds.{PrewritePlan}
use Rattle.txn_commit_plans.proofs.Planning.{made_prewrite}
use Rattle.txn_commit_plans.proofs.prewrite.plan_of_prewrite.Goals as goal

pub returns : goal.returns
returns g c = made_prewrite c.args.request c.encoded-request.result.context c.args.retry_options c.plan_over_regions-plan.result c.new-merged.result c.new.result
    (ap (λ (p : PrewritePlan). p.inner) c.new.ensures ∙ c.new-extracted.ensures)
    c.new-merged.ensures.inner
    (ap (λ (d : Dispatch PrewriteRequest PrewriteResponse). d.request) c.plan_over_regions-plan.ensures.request ∙ c.encoded-request.ensures.rest)
    c.plan_over_regions-plan.ensures.errors (same_options _ _ c.plan_over_regions-plan.ensures.backoff c.plan_over_regions-plan.ensures.locks) c.plan_over_regions-plan.ensures.unbegun c.plan_over_regions-plan.ensures.ready
