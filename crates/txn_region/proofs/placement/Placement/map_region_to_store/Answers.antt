use Rattle.txn_region.proofs.Believing.{good_without_any}
use Rattle.txn_region.proofs.placement.Placement.map_region_to_store.Goals as goal

pub invariant_of-self-in-Err-1 : goal.invariant_of-self-in-Err-1
invariant_of-self-in-Err-1 c = rw c.drop_record.ensures (good_without_any _ c.args.region _ c.self.invariant)
