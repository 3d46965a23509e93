use Rattle.txn_trace.proofs.Transacting.{transacting_runs}
use Rattle.txn_trace.proofs.transacts.transactions_keep_runs.Goals as goal

pub returns : goal.returns
returns c = transacting_runs
