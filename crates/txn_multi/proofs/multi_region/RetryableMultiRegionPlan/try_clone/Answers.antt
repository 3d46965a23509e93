use Rattle.txn_multi.proofs.Multis.{copied}
use Rattle.txn_multi.proofs.multi_region.RetryableMultiRegionPlan.try_clone.Goals as goal

pub returns : goal.returns
returns g c = copied c.args.self.now c.in_ok-try_clone.field-0 c.if-not-is_fresh.ensures.0 c.if-not-is_fresh.ensures.1 c.in_ok-try_clone.ensures
