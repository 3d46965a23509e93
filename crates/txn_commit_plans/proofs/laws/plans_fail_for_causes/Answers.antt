use Rattle.txn_commit_plans.specs.CausesOfPlans.{commits_caused, prewrites_caused, rollbacks_caused}
use Rattle.txn_commit_plans.proofs.laws.plans_fail_for_causes.Goals as goal

pub returns-clause-prewrite : goal.returns-clause-prewrite
returns-clause-prewrite c = prewrites_caused

pub returns-clause-commit : goal.returns-clause-commit
returns-clause-commit c = commits_caused

pub returns-clause-batch_rollback : goal.returns-clause-batch_rollback
returns-clause-batch_rollback c = rollbacks_caused
