use Rattle.std.proofs.Common.{◌≡◌, take}
use Rattle.txn_model.proofs.placement.told_stores.Given as goal

abbrev pub invariant-loop-store : goal.invariant-loop-store
invariant-loop-store l = l.copies ≡ take l.store-index l.stores
