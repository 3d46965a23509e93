use Rattle.txn_core.proofs.Ordered.{begun_fits, written_fits}
use Rattle.txn_core.proofs.laws.transactions_arise.Goals as goal

pub returns-clause-begun : goal.returns-clause-begun
returns-clause-begun g c = begun_fits _

pub returns-clause-written : goal.returns-clause-written
returns-clause-written g c = written_fits _
