use Rattle.txn_commit.proofs.Going.{call_posted, call_waits, stage_runs}
use Rattle.txn_commit.proofs.laws.calls_wait_for_what_was_posted.Goals as goal

pub returns-clause-runs : goal.returns-clause-runs
returns-clause-runs g c s a x = stage_runs g.P.Plans.ways g.met.P.Plans.lawful s a x

pub returns-clause-waits : goal.returns-clause-waits
returns-clause-waits g c call commits o h f e = call_waits g.P.Plans.ways g.met.P.Plans.lawful call commits o h f e

pub returns-clause-posted : goal.returns-clause-posted
returns-clause-posted g c call commits o h a f x = call_posted g.P.Plans.ways g.met.P.Plans.lawful call commits o h a f x
