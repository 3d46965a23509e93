-- Replies that refuse a request, and the timestamp at which a request reads.
use Rattle.std.specs.Prelude.{ℕ, Bool, false, not, Option, None, is_some}
use Rattle.txn_kv.specs.declared.message.RegionErr.{RegionErr}
use Rattle.txn_kv.specs.declared.request.Request.{Request}
use Rattle.txn_kv.specs.declared.request.Request.TheVariants as request
use Rattle.txn_kv.specs.declared.reply.Reply.{Reply}
use Rattle.txn_kv.specs.declared.reply.Reply.TheVariants.{Get, BatchGet, Scan, Prewrite, Commit, Cleanup, BatchRollback, PessimisticRollback, PessimisticLock, ResolveLock, ScanLock, TxnHeartBeat, CheckTxnStatus, CheckSecondaryLocks, UnsafeDestroyRange}
use Rattle.txn_model.specs.Cells.{has_none}

-- the region error of a reply
abbrev pub region_error_in : Reply → Option RegionErr
region_error_in (Get o) = o.region_error
region_error_in (BatchGet o) = o.region_error
region_error_in (Scan o) = o.region_error
region_error_in (Prewrite o) = o.region_error
region_error_in (Commit o) = o.region_error
region_error_in (Cleanup o) = o.region_error
region_error_in (BatchRollback o) = o.region_error
region_error_in (PessimisticRollback o) = o.region_error
region_error_in (PessimisticLock o) = o.region_error
region_error_in (ResolveLock o) = o.region_error
region_error_in (ScanLock o) = o.region_error
region_error_in (TxnHeartBeat o) = o.region_error
region_error_in (CheckTxnStatus o) = o.region_error
region_error_in (CheckSecondaryLocks o) = o.region_error
region_error_in (UnsafeDestroyRange o) = o.region_error
region_error_in _ = None

-- the request is refused by its row: the reply has an error beside that of a region
abbrev pub refuses : Reply → Bool
refuses (Get o) = is_some o.error
refuses (BatchGet o) = is_some o.error
refuses (Scan o) = is_some o.error
refuses (Prewrite o) = not (has_none o.errors)
refuses (Commit o) = is_some o.error
refuses (Cleanup o) = is_some o.error
refuses (BatchRollback o) = is_some o.error
refuses (PessimisticRollback o) = not (has_none o.errors)
refuses (PessimisticLock o) = not (has_none o.errors)
refuses (ResolveLock o) = is_some o.error
refuses (ScanLock o) = is_some o.error
refuses (TxnHeartBeat o) = is_some o.error
refuses (CheckTxnStatus o) = is_some o.error
refuses (CheckSecondaryLocks o) = is_some o.error
refuses (UnsafeDestroyRange o) = not (has_none o.error)
refuses _ = false

-- the timestamp at which a request reads, and 0 where it reads none
abbrev pub read_timestamp : Request → ℕ
read_timestamp (request.Get r) = r.version
read_timestamp (request.BatchGet r) = r.version
read_timestamp (request.Scan r) = r.version
read_timestamp (request.PessimisticLock r) = r.for_update_ts
read_timestamp _ = 0
