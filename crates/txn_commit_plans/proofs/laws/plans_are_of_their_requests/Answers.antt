use Rattle.txn_commit_plans.proofs.Planning.{plans_commit, plans_prewrite, plans_rollback}
use Rattle.txn_commit_plans.proofs.laws.plans_are_of_their_requests.Goals as goal

pub returns-clause-prewrite : goal.returns-clause-prewrite
returns-clause-prewrite c = plans_prewrite

pub returns-clause-commit : goal.returns-clause-commit
returns-clause-commit c = plans_commit

pub returns-clause-batch_rollback : goal.returns-clause-batch_rollback
returns-clause-batch_rollback c = plans_rollback
