use Rattle.txn_commit.proofs.laws.no_pessimistic_lock_is_asked_for.Goals as goal

pub returns-clause-sent : goal.returns-clause-sent
returns-clause-sent c plan s h r m = m

pub returns-clause-foreign : goal.returns-clause-foreign
returns-clause-foreign c h r f = f
