use Rattle.std.proofs.Common.{◌≡◌, drop}
use Rattle.txn_model.specs.Regions.{starts_at}
use Rattle.txn_model.proofs.split.starts_at.Given as goal

abbrev pub invariant-loop-region : goal.invariant-loop-region
invariant-loop-region l = starts_at (drop l.region-index l.regions) l.key ≡ starts_at l.regions l.key
