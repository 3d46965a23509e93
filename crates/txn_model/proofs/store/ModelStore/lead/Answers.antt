use Rattle.txn_model.specs.Splits.{AreCounted}
use Rattle.txn_model.proofs.Splitting.{counted_led}
use Rattle.txn_model.proofs.store.ModelStore.lead.Goals as goal

pub invariant_of-self : goal.invariant_of-self
invariant_of-self c =
    let counted : AreCounted c.lead_region.new.regions.items = rw c.lead_region.ensures (counted_led c.args.region c.args.store c.self.inside.regions.items c.self.invariant.counted) in
    record { kept = c.self.invariant.kept; ordered = c.self.invariant.ordered; counted = counted; clock_bits = c.self.invariant.clock_bits }
