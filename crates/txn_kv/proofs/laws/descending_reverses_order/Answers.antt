use Rattle.txn_kv.proofs.Order.{reversed, reversed_alone}
use Rattle.txn_kv.proofs.laws.descending_reverses_order.Goals as goal

pub returns-clause-keys : goal.returns-clause-keys
returns-clause-keys c = reversed_alone

pub returns-clause-followed : goal.returns-clause-followed
returns-clause-followed c = reversed
