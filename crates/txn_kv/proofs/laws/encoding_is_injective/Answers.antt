use Rattle.txn_kv.proofs.Order.{injective}
use Rattle.txn_kv.proofs.laws.encoding_is_injective.Goals as goal

pub returns : goal.returns
returns c = injective
