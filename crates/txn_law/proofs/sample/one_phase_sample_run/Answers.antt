use Rattle.txn_law.proofs.OnePhaseRun.{one_phase_runs, answered, first_committed, second_committed}
use Rattle.txn_law.proofs.sample.one_phase_sample_run.Goals as goal

pub returns-clause-runs : goal.returns-clause-runs
returns-clause-runs c = one_phase_runs

pub returns-clause-answered : goal.returns-clause-answered
returns-clause-answered c = answered

pub returns-clause-first : goal.returns-clause-first
returns-clause-first c = first_committed

pub returns-clause-second : goal.returns-clause-second
returns-clause-second c = second_committed
