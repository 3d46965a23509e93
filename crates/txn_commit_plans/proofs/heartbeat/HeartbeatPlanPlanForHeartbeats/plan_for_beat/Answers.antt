use Rattle.std.proofs.Common.{ap, ◌∙◌}
use Rattle.txn_kv.specs.declared.reply.commits.TxnHeartBeatResponse.{TxnHeartBeatResponse}
use Rattle.txn_kv.specs.declared.request.commits.TxnHeartBeatRequest.{TxnHeartBeatRequest}
use Rattle.txn_plan.specs.declared.dispatch.Dispatch.{Dispatch}
use Rattle.txn_commit_plans.specs.Kinds.{Beats, HeartbeatPlan}
use Rattle.txn_commit_plans.proofs.Beating.{made_heartbeat}
use Rattle.txn_commit_plans.proofs.heartbeat.HeartbeatPlanPlanForHeartbeats.plan_for_beat.Goals as goal

pub returns : goal.returns
returns g c = made_heartbeat c.args.request c.encoded-request.result.context c.new-plan.result c.new.result
    (ap (λ (p : HeartbeatPlan). p.inner) c.new.ensures ∙ c.new-merged.ensures.inner)
    (ap (λ (s : Beats). s.inner.request) c.new-plan.ensures.value ∙ ap (λ (d : Dispatch TxnHeartBeatRequest TxnHeartBeatResponse). d.request) c.new-sent.ensures.value ∙ c.encoded-request.ensures.rest)
    c.new-plan.ensures.unbegun c.new-plan.ensures.ready
