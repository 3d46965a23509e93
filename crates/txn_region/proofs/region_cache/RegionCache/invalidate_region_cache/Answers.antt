use Rattle.txn_region.proofs.Apart.{kept_filter}
use Rattle.txn_region.proofs.region_cache.RegionCache.invalidate_region_cache.Goals as goal

pub invariant_of-self : goal.invariant_of-self
invariant_of-self c = (rw c.drop_ver_id.ensures.items (kept_filter _ _ c.self.invariant.0), c.drop_ver_id.ensures.heads, c.drop_ver_id.ensures.starts)
