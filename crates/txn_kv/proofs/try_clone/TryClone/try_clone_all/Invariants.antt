use Rattle.std.proofs.Common.{◌≡◌, take}
use Rattle.txn_kv.proofs.try_clone.TryClone.try_clone_all.Given as goal

abbrev pub invariant-loop-item : goal.invariant-loop-item
invariant-loop-item g l = l.copies.items ≡ take l.item-index l.items
