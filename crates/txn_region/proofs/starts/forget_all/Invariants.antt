use Rattle.std.proofs.Common.{◌≡◌, ℕ, take}
use Rattle.std.specs.Prelude.{cond, None}
use Rattle.std.specs.List.{list_any}
use Rattle.txn_region.specs.Regions.{has_id}
use Rattle.txn_region.specs.Starts.{start_at}
use Rattle.txn_region.proofs.starts.forget_all.Given as goal

abbrev pub invariant-loop-region : goal.invariant-loop-region
invariant-loop-region l = (q : ℕ) → start_at l.starts q ≡ cond (list_any (has_id q) (take l.region-index l.regions)) None (start_at l.fn.starts q)
