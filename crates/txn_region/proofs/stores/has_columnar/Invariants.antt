use Rattle.std.proofs.Common.{◌≡◌, drop}
use Rattle.std.specs.List.{list_any}
use Rattle.txn_region.specs.Stores.{is_columnar}
use Rattle.txn_region.proofs.stores.has_columnar.Given as goal

abbrev pub invariant-loop-label : goal.invariant-loop-label
invariant-loop-label l = list_any is_columnar (drop l.label-index l.labels) ≡ list_any is_columnar l.labels
