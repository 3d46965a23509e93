use Rattle.std.proofs.Common.{◌≡◌, ◌++◌, drop}
use Rattle.txn_region.specs.Stores.{valid_stores}
use Rattle.txn_region.proofs.stores.copy_valid_stores.Given as goal

abbrev pub invariant-loop-store : goal.invariant-loop-store
invariant-loop-store l = l.copies.items ++ valid_stores (drop l.store-index l.stores) ≡ valid_stores l.stores
