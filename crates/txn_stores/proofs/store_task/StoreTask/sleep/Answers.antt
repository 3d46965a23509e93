use Rattle.std.proofs.Common.{refl}
use Rattle.txn_stores.proofs.Settled.{step_stopped, Settles-slept, Settles-stopped}
use Rattle.txn_stores.proofs.store_task.StoreTask.sleep.Goals as goal

pub returns-in_err-number-clause-settles : goal.returns-in_err-number-clause-settles
returns-in_err-number-clause-settles g c = λ ticket. Settles-stopped refl (step_stopped c.from_residual.result c.from_residual.ensures.0) c.in_err-number.ensures.err

pub returns-clause-settles : goal.returns-clause-settles
returns-clause-settles g c = λ ticket. Settles-slept g.met.P.Plan.lawful c.args.ms c.args.backoff ticket c.requires.delay c.requires.goes_on (rw c.in_ok-number.ensures.number refl) c.in_ok-number.ensures.ok
