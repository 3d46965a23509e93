use Rattle.std.proofs.Common.{refl}
use Rattle.txn_commit.proofs.secondary_job.read.Goals as goal

pub returns-in-Done : goal.returns-in-Done
returns-in-Done g c = rw (c.in_ok-turn.was, c.in-Done.is) (c.done.result, refl, c.done.ensures)
