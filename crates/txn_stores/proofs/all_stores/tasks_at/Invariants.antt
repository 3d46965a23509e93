use Rattle.std.proofs.Common.{◌≡◌, map, take}
use Rattle.txn_stores.specs.StoreTask.{task_at}
use Rattle.txn_stores.proofs.all_stores.tasks_at.Given as goal

abbrev pub invariant-loop-store : goal.invariant-loop-store
invariant-loop-store g l = l.tasks.items ≡ map (task_at g.P.StoreRequest.at_store l.plan l.backoff l.alloc) (take l.store-index l.stores)
