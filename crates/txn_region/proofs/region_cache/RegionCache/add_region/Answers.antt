use Rattle.txn_region.proofs.Placing.{kept_if_taken}
use Rattle.txn_region.proofs.region_cache.RegionCache.add_region.Goals as goal

pub invariant_of-self-2 : goal.invariant_of-self-2
invariant_of-self-2 c = (rw c.in_ok-put_region.ensures.ok (kept_if_taken _ _ c.in_ok-refuse.ensures.ok c.self.invariant.0), c.in_ok-put_region.ensures.heads, c.in_ok-put_region.ensures.starts)
