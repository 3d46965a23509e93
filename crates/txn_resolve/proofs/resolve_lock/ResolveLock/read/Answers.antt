use Rattle.std.proofs.Common.{refl}
use Rattle.txn_resolve.proofs.resolve_lock.ResolveLock.read.Goals as goal

pub returns-in-Done : goal.returns-in-Done
returns-in-Done g c = rw (c.in_ok-turn.was, c.in-Done.is) (c.unlocked.result, refl, c.unlocked.ensures)
