use Rattle.txn_core.proofs.Lists.{locks_more}
use Rattle.txn_core.proofs.transaction.writes.lock_all.Goals as goal

pub loop-key-preserved : goal.loop-key-preserved
loop-key-preserved c = locks_more c.loop-key.yielded c.in-Some.key _ c.loop-key.buffer c.lock.new.self c.loop-key.invariant c.in_ok-lock.ensures.ok
