use Rattle.txn_lock.proofs.Keeping.{kept_deaf}
use Rattle.txn_lock.proofs.kept.KeptPlan.tell.Goals as goal

pub returns : goal.returns
returns g c = kept_deaf c.args.arrival c.requires.callable.numbers
