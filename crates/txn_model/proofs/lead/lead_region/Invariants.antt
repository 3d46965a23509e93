use Rattle.std.proofs.Common.{◌≡◌, ◌++◌, take, drop, map}
use Rattle.txn_model.specs.Regions.{led_if}
use Rattle.txn_model.proofs.lead.lead_region.Given as goal

abbrev pub invariant-loop-i : goal.invariant-loop-i
invariant-loop-i l = l.regions.items ≡ map (led_if l.id l.store) (take l.i l.initial.regions.items) ++ drop l.i l.initial.regions.items
