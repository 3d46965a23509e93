use Rattle.txn_lock.proofs.Deciding.{not_one}
use Rattle.txn_lock.proofs.ruling.is_one_mismatch.Goals as goal

pub returns-else-found-eq1 : goal.returns-else-found-eq1
returns-else-found-eq1 c = not_one c.args.found.now c.if-found-eq1.false
