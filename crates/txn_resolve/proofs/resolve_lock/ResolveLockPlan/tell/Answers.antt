use Rattle.txn_resolve.proofs.Unlocking.{steps}
use Rattle.txn_resolve.proofs.resolve_lock.ResolveLockPlan.tell.Goals as goal

pub returns : goal.returns
returns g c = steps g.P.Plan.meaning g.P.Result.HasLocks.locks c.read.ensures c.tell-turn.ensures
