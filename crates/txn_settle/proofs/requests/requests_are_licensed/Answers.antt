use Rattle.txn_settle.proofs.Licensing.{cleanup_licensed, resolve_licensed, rollback_licensed}
use Rattle.txn_settle.proofs.requests.requests_are_licensed.Goals as goal

pub returns-clause-asks : goal.returns-clause-asks
returns-clause-asks c = cleanup_licensed

pub returns-clause-settles : goal.returns-clause-settles
returns-clause-settles c = resolve_licensed

pub returns-clause-removes : goal.returns-clause-removes
returns-clause-removes c = rollback_licensed
