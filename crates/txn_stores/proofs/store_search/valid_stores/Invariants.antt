use Rattle.std.proofs.Common.{◌≡◌, map}
use Rattle.txn_stores.specs.Search.{stores_in}
use Rattle.txn_stores.proofs.store_search.valid_stores.Given as goal

abbrev pub invariant-loop-meta : goal.invariant-loop-meta
invariant-loop-meta l = map (λ s. s.id) l.stores.items ≡ stores_in l.yielded
