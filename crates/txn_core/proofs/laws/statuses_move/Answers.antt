use Rattle.txn_core.proofs.Moving.{moves}
use Rattle.txn_core.proofs.laws.statuses_move.Goals as goal

pub returns : goal.returns
returns c = moves
