use Rattle.txn_core.proofs.Waiting.{busy_runs, standing_posted, standing_waits, work_runs}
use Rattle.txn_core.proofs.laws.transactions_wait_for_what_was_posted.Goals as goal

pub returns-clause-runs : goal.returns-clause-runs
returns-clause-runs g c s a x = work_runs g.P.Plans.ways g.met.P.Plans.lawful s a x

pub returns-clause-busy : goal.returns-clause-busy
returns-clause-busy g c t r e = busy_runs g.P.Plans.ways t r e

pub returns-clause-waits : goal.returns-clause-waits
returns-clause-waits g c t o h f e = standing_waits g.P.Plans.ways g.met.P.Plans.lawful t o h f e

pub returns-clause-posted : goal.returns-clause-posted
returns-clause-posted g c t o h a f x = standing_posted g.P.Plans.ways g.met.P.Plans.lawful t o h a f x
