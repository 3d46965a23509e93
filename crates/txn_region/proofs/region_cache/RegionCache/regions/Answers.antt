use Rattle.txn_region.proofs.Apart.{disjoint_if_apart}
use Rattle.txn_region.proofs.region_cache.RegionCache.regions.Goals as goal

pub returns-clause-disjoint : goal.returns-clause-disjoint
returns-clause-disjoint c = rw c.as_slice.ensures.value (disjoint_if_apart _ c.self.invariant.0.apart)
