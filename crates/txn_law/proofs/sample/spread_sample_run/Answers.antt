use Rattle.txn_law.proofs.SpreadRun.{spread_runs, first_committed, second_committed}
use Rattle.txn_law.proofs.sample.spread_sample_run.Goals as goal

pub returns-clause-runs : goal.returns-clause-runs
returns-clause-runs c = spread_runs

pub returns-clause-first : goal.returns-clause-first
returns-clause-first c = first_committed

pub returns-clause-second : goal.returns-clause-second
returns-clause-second c = second_committed
