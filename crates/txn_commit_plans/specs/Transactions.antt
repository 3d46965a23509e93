-- The plans of a transaction as one type, by what they mean.
use Rattle.std.specs.Prelude.{Result}
use Rattle.txn_commit.specs.Ways.{AreLasting, IsOneEach, Ways}
use Rattle.txn_commit.specs.declared.fetched.Fetched.{Fetched}
use Rattle.txn_either.specs.Either.{either}
use Rattle.txn_either.specs.declared.either.Either.{Either}
use Rattle.txn_history.specs.Meaning.{Meaning}
use Rattle.txn_kv.specs.declared.errors.Error.{Error}
use Rattle.txn_multi.specs.Few.{by_items}
use Rattle.txn_commit_plans.specs.Done.{done}
use Rattle.txn_commit_plans.specs.CausesOfPlans.{commits_caused, prewrites_caused, rollbacks_caused}
use Rattle.txn_commit_plans.specs.Failing.{AreCaused, HasGivenWith, given_caused, has_given_longer}
use Rattle.txn_commit_plans.specs.Kinds.{CommitPlan, PrewritePlan, RollbackPlan, commit_plan, commit_plan-lawful, commit_retries, prewrite_plan, prewrite_plan-lawful, prewrite_retries, rollback_plan, rollback_plan-lawful, rollback_retries}
use Rattle.txn_commit_plans.specs.OneEach.{few_by_items}

abbrev pub AnyPlan : Type 0
AnyPlan = Either PrewritePlan (Either CommitPlan RollbackPlan)

abbrev pub transaction_plan : Meaning AnyPlan (Result Fetched Error)
transaction_plan = either (done prewrite_plan) (either (done commit_plan) (done rollback_plan))

-- An error rests on what some plan of its kind with these options answers.
abbrev pub transaction_ways : Ways AnyPlan
transaction_ways = record {
  plan = transaction_plan;
  unwritten = HasGivenWith prewrite_plan prewrite_retries;
  uncommitted = HasGivenWith commit_plan commit_retries;
  unrolled = HasGivenWith rollback_plan rollback_retries;
  costs = record { prewrites = by_items; commits = by_items; rollbacks = by_items };
}

-- lemmas

pub transactions_last : AreLasting transaction_ways
transactions_last = record {
  unwritten = has_given_longer prewrite_plan prewrite_retries prewrite_plan-lawful;
  uncommitted = has_given_longer commit_plan commit_retries commit_plan-lawful;
  unrolled = has_given_longer rollback_plan rollback_retries rollback_plan-lawful;
}

pub transactions_caused : AreCaused transaction_ways
transactions_caused = record {
  unwritten = given_caused prewrite_plan prewrite_retries prewrites_caused;
  uncommitted = given_caused commit_plan commit_retries commits_caused;
  unrolled = given_caused rollback_plan rollback_retries rollbacks_caused;
}

pub transactions_one_each : IsOneEach transaction_ways.costs
transactions_one_each = record { prewrites = few_by_items; commits = few_by_items; rollbacks = few_by_items }
