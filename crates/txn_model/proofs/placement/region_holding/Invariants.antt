use Rattle.std.proofs.Common.{◌≡◌, drop}
use Rattle.txn_model.specs.Placement.{region_holding}
use Rattle.txn_model.proofs.placement.region_holding.Given as goal

abbrev pub invariant-loop-region : goal.invariant-loop-region
invariant-loop-region l = region_holding (drop l.region-index l.regions) l.key ≡ region_holding l.regions l.key
