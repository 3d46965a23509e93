-- What a PessimisticLock makes ready at a key.
use Rattle.std.specs.Prelude.{None}
use Rattle.txn_kv.specs.declared.request.locks.PessimisticLockRequest.{PessimisticLockRequest}
use Rattle.txn_model.specs.declared.cell.Cell.{Cell}
use Rattle.txn_model.specs.declared.change.Change.{Change}
use Rattle.txn_model.specs.declared.change.LockChange.TheVariants.{Becomes}
use Rattle.txn_model.specs.Cells.{Key}
use Rattle.txn_model.specs.PessimisticLock.{raised_lock}

abbrev pub locking : PessimisticLockRequest → Key → Cell → Change
locking r k c = record { key = k; lock = Becomes (raised_lock r c.lock); rolled = None }
