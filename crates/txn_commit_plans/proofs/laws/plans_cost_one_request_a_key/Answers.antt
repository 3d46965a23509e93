use Rattle.txn_commit_plans.specs.Transactions.{transactions_one_each}
use Rattle.txn_commit_plans.proofs.laws.plans_cost_one_request_a_key.Goals as goal

pub returns : goal.returns
returns c = transactions_one_each
