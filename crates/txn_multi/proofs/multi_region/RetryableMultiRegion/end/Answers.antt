use Rattle.std.proofs.Common.{inr, refl}
use Rattle.txn_multi.proofs.multi_region.RetryableMultiRegion.end.Goals as goal

pub returns-clause-after : goal.returns-clause-after
returns-clause-after g c = inr (c.in_ok-answer.answer, refl, refl, c.in_ok-answer.ensures)
