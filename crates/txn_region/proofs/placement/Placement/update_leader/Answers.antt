use Rattle.txn_region.proofs.Believing.{good_led}
use Rattle.txn_region.proofs.placement.Placement.update_leader.Goals as goal

pub invariant_of-self : goal.invariant_of-self
invariant_of-self c = rw c.update_leader.ensures (good_led _ _ _ _ c.self.invariant)
