use Rattle.txn_commit_plans.specs.Done.{done}
use Rattle.txn_commit_plans.specs.Kinds.{commit_plan, prewrite_plan, rollback_plan}
use Rattle.txn_either.specs.Either.{either}
use Rattle.txn_commit_plans.proofs.Making.{done_plan_for, first_plan_for}
use Rattle.txn_commit_plans.proofs.transaction_plan.AnyPlanTransactionPlans.prewrite.Goals as goal

pub returns : goal.returns
returns g c = first_plan_for (done prewrite_plan) (either (done commit_plan) (done rollback_plan)) _ _ _ _ (done_plan_for prewrite_plan _ _ _ _ c.plan_of_prewrite-plan.ensures)
