use Rattle.txn_commit.proofs.Sending.{settled_refused}
use Rattle.txn_commit.proofs.laws.what_is_determined_was_refused.Goals as goal

pub returns : goal.returns
returns c plan s commits h u known t r sent primary = settled_refused plan s commits h u known t r sent primary
