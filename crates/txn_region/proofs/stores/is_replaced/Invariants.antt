use Rattle.std.proofs.Common.{◌≡◌, drop}
use Rattle.txn_region.specs.Stores.{is_replaced}
use Rattle.txn_region.proofs.stores.is_replaced.Given as goal

abbrev pub invariant-loop-store : goal.invariant-loop-store
invariant-loop-store l = is_replaced (drop l.store-index l.new) l.known ≡ is_replaced l.new l.known
