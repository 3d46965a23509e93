use Rattle.txn_core.proofs.Moving.{begun_follows, closed_stays, commit_follows, refusal_stays, rollback_follows}
use Rattle.txn_core.proofs.laws.statuses_follow.Goals as goal

pub returns-clause-commit : goal.returns-clause-commit
returns-clause-commit g c = commit_follows

pub returns-clause-rollback : goal.returns-clause-rollback
returns-clause-rollback g c = rollback_follows

pub returns-clause-closed : goal.returns-clause-closed
returns-clause-closed g c = closed_stays

pub returns-clause-refused : goal.returns-clause-refused
returns-clause-refused g c = refusal_stays

pub returns-clause-begun : goal.returns-clause-begun
returns-clause-begun g c = begun_follows
