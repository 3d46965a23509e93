use Rattle.txn_core.proofs.Ordered.{locked_ordered, written_ordered}
use Rattle.txn_core.proofs.laws.keys_stay_in_order.Goals as goal

pub returns-clause-written : goal.returns-clause-written
returns-clause-written c = written_ordered

pub returns-clause-locked : goal.returns-clause-locked
returns-clause-locked c = locked_ordered
