use Rattle.txn_commit.proofs.Licences.{sending_licensed}
use Rattle.txn_commit.proofs.laws.sending_is_licensed.Goals as goal

pub returns : goal.returns
returns c = sending_licensed
