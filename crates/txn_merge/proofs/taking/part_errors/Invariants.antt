use Rattle.std.proofs.Common.{◌≡◌, ◌++◌, map}
use Rattle.txn_kv.specs.ErrorView.{view_of}
use Rattle.txn_merge.specs.KeyErrors.{views_of_pairs, without_pair_error}
use Rattle.txn_merge.proofs.taking.part_errors.Given as goal

abbrev pub invariant-loop-pair : goal.invariant-loop-pair
invariant-loop-pair l = record {
  found : map view_of l.found.items ++ views_of_pairs l.pair-iterator.rest.items ≡ views_of_pairs l.initial.pair-iterator.rest.items;
  left : l.others.items ++ map without_pair_error l.pair-iterator.rest.items ≡ map without_pair_error l.initial.pair-iterator.rest.items;
}
