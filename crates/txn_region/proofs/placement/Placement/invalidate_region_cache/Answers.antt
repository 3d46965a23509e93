use Rattle.txn_region.proofs.Believing.{good_filter}
use Rattle.txn_region.proofs.placement.Placement.invalidate_region_cache.Goals as goal

pub invariant_of-self : goal.invariant_of-self
invariant_of-self c = rw c.invalidate_region_cache.ensures (good_filter _ _ _ c.self.invariant)
