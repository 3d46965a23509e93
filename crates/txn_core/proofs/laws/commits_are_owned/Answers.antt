use Rattle.txn_core.proofs.Owning.{commits_own, job_adds, job_commits_own, other_jobs_add, others_add}
use Rattle.txn_core.proofs.laws.commits_are_owned.Goals as goal

pub returns-clause-transaction : goal.returns-clause-transaction
returns-clause-transaction c = commits_own

pub returns-clause-job : goal.returns-clause-job
returns-clause-job c = job_commits_own

pub returns-clause-other_transaction : goal.returns-clause-other_transaction
returns-clause-other_transaction c = others_add

pub returns-clause-other_job : goal.returns-clause-other_job
returns-clause-other_job c = other_jobs_add

pub returns-clause-own_job : goal.returns-clause-own_job
returns-clause-own_job c = job_adds
