use Rattle.txn_trace.proofs.Lines.{fresh_after, fresh_higher, fresh_none, fresh_others, fresh_quiet, posting_runs}
use Rattle.txn_trace.proofs.posts.posting_keeps_runs.Goals as goal

pub returns-clause-runs : goal.returns-clause-runs
returns-clause-runs c = posting_runs

pub returns-clause-fresh : goal.returns-clause-fresh
returns-clause-fresh c = fresh_after

pub returns-clause-others : goal.returns-clause-others
returns-clause-others c = fresh_others

pub returns-clause-quiet : goal.returns-clause-quiet
returns-clause-quiet c = fresh_quiet

pub returns-clause-higher : goal.returns-clause-higher
returns-clause-higher c = fresh_higher

pub returns-clause-begins : goal.returns-clause-begins
returns-clause-begins c = fresh_none
