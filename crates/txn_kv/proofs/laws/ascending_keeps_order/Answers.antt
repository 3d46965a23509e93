use Rattle.txn_kv.proofs.Order.{ordered, ordered_alone}
use Rattle.txn_kv.proofs.laws.ascending_keeps_order.Goals as goal

pub returns-clause-keys : goal.returns-clause-keys
returns-clause-keys c = ordered_alone

pub returns-clause-followed : goal.returns-clause-followed
returns-clause-followed c = ordered
