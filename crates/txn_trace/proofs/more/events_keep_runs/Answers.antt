use Rattle.txn_trace.proofs.Growing.{unsent_runs}
use Rattle.txn_trace.proofs.more.events_keep_runs.Goals as goal

pub returns : goal.returns
returns c = unsent_runs
