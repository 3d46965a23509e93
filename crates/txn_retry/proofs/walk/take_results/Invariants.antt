use Rattle.std.proofs.Common.{◌≡◌, ◌++◌, ◌<◌, length}
use Rattle.std.specs.List.{All}
use Rattle.txn_retry.specs.Place.{results, AreDistinct}
use Rattle.txn_retry.proofs.walk.take_results.Given as goal

abbrev pub invariant-loop-at : goal.invariant-loop-at
invariant-loop-at g l = record {
  same : l.results.items ++ results l.places.items l.at-iterator.rest.items ≡ results l.fn.places.items l.fn.order.items;
  distinct : AreDistinct l.at-iterator.rest.items;
  made : All (λ i. i < length l.places.items) l.at-iterator.rest.items;
}
