use Rattle.txn_lock.proofs.Deciding.{decided_settles, decided_shared}
use Rattle.txn_lock.proofs.decision.decisions_hold.Goals as goal

pub returns-clause-shared : goal.returns-clause-shared
returns-clause-shared c = decided_shared

pub returns-clause-settles : goal.returns-clause-settles
returns-clause-settles c = decided_settles
