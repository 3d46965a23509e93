use Rattle.std.proofs.Common.{ap, ◌∙◌}
use Rattle.txn_kv.specs.declared.reply.commits.CommitResponse.{CommitResponse}
use Rattle.txn_kv.specs.declared.request.commits.CommitRequest.{CommitRequest}
use Rattle.txn_plan.specs.declared.dispatch.Dispatch.{Dispatch}
use Rattle.txn_commit.proofs.Stages.{same_options}
use Rattle.txn_commit_plans.specs.Kinds.{CommitPlan}
use Rattle.txn_commit_plans.proofs.Planning.{made_commit}
use Rattle.txn_commit_plans.proofs.commit.plan_of_commit.Goals as goal

pub returns : goal.returns
returns g c = made_commit c.args.request c.encoded-request.result.context c.args.retry_options c.plan_over_regions-plan.result c.new.result
    (ap (λ (p : CommitPlan). p.inner) c.new.ensures ∙ c.new-extracted.ensures)
    (ap (λ (d : Dispatch CommitRequest CommitResponse). d.request) c.plan_over_regions-plan.ensures.request ∙ c.encoded-request.ensures.rest)
    c.plan_over_regions-plan.ensures.errors (same_options _ _ c.plan_over_regions-plan.ensures.backoff c.plan_over_regions-plan.ensures.locks) c.plan_over_regions-plan.ensures.unbegun c.plan_over_regions-plan.ensures.ready
