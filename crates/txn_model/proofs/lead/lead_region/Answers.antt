use Rattle.std.proofs.Common.{arith}
use Rattle.txn_model.specs.Regions.{led_if}
use Rattle.txn_model.proofs.Mapping.{mapped_next}
use Rattle.txn_model.proofs.lead.lead_region.Goals as goal

pub loop-i-preserved : goal.loop-i-preserved
loop-i-preserved c =
    mapped_next (led_if c.args.id c.args.store) c.args.regions.now.items c.loop-i.regions.items c.loop-i.i c.index_mut.result.now c.lead_if.new.region (omega arith) c.loop-i.invariant c.index_mut.ensures.value c.lead_if.ensures
