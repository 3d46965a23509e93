use Rattle.std.proofs.Common.{◌≡◌, ◌++◌, [], drop}
use Rattle.std.specs.List.{filter_map}
use Rattle.txn_merge.proofs.has_region_errors.all_errors.Given as goal

abbrev pub invariant-loop-item : goal.invariant-loop-item
invariant-loop-item g l = record {
  same : l.errors.items ≡ [] → l.items ≡ l.initial.items;
  rest : drop l.item-index l.items ≡ drop l.item-index l.initial.items;
  found : l.errors.items ++ filter_map g.T.HasRegionError.region_error_in (drop l.item-index l.initial.items) ≡ filter_map g.T.HasRegionError.region_error_in l.initial.items;
}
