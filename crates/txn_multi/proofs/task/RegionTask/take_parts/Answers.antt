use Rattle.std.proofs.Common.{inr}
use Rattle.txn_multi.proofs.Retrying.{Over-before}
use Rattle.txn_multi.proofs.task.RegionTask.take_parts.Goals as goal

pub returns-in-Ok-clause-over : goal.returns-in-Ok-clause-over
returns-in-Ok-clause-over g c o = Over-before (λ h f. f.0) (c.give_parts.ensures.over o)

pub returns-in-Err-clause-over : goal.returns-in-Err-clause-over
returns-in-Err-clause-over g c o = Over-before (λ h f. inr (inr (f.0.0, rw c.in-Err.is at f.1))) (c.end.ensures.over o)
