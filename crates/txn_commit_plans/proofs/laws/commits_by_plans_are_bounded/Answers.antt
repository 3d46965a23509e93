use Rattle.txn_commit_plans.specs.Transactions.{transaction_ways, transactions_one_each}
use Rattle.txn_commit_plans.proofs.Frugal.{frugal_commit, frugal_rollback}
use Rattle.txn_commit_plans.proofs.laws.commits_by_plans_are_bounded.Goals as goal

pub returns-clause-commit : goal.returns-clause-commit
returns-clause-commit c = frugal_commit transaction_ways transactions_one_each

pub returns-clause-rollback : goal.returns-clause-rollback
returns-clause-rollback c = frugal_rollback transaction_ways transactions_one_each
