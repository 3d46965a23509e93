-- What a client may send that is no request of its own transactions, and rests on no plan.
use Rattle.std.specs.Prelude.{List}
use Rattle.txn_kv.specs.declared.request.Request.{Request}
use Rattle.txn_kv.specs.declared.request.Request.TheVariants.{Get, BatchGet, Scan, Prewrite, Commit, Cleanup, BatchRollback, PessimisticRollback, PessimisticLock, ResolveLock, ScanLock, TxnHeartBeat, CheckTxnStatus, CheckSecondaryLocks, UnsafeDestroyRange, GetRegion, GetRegionById, GetStore, GetAllStores, UpdateGcSafePoint, Tso, Members}
use Rattle.txn_history.specs.Event.{Event}
use Rattle.txn_history.specs.Licence.{WasGiven, WasMet, PessimisticRollbackLicence, ResolveLockLicence, StatusLicence}

-- It looks for regions and stores, reads, and settles the locks of others, as the licences allow. It asks what became of a start,
-- or cleans it up, only where a lock showed the start and its primary. It writes nothing and locks nothing. It destroys no range, and
-- moves no safepoint.
abbrev pub IsForeign : List Event → Request → Type 0
IsForeign h (Get r) = WasGiven h r.version
IsForeign h (BatchGet r) = WasGiven h r.version
IsForeign h (Scan r) = WasGiven h r.version
IsForeign h (Prewrite r) = ⊥
IsForeign h (Commit r) = ⊥
IsForeign h (Cleanup r) = WasMet h r.start_version r.key
IsForeign h (BatchRollback r) = ⊥
IsForeign h (PessimisticRollback r) = PessimisticRollbackLicence h r
IsForeign h (PessimisticLock r) = ⊥
IsForeign h (ResolveLock r) = ResolveLockLicence h r
IsForeign h (ScanLock r) = Unit {0}
IsForeign h (TxnHeartBeat r) = Unit {0}
IsForeign h (CheckTxnStatus r) = WasMet h r.lock_ts r.primary_key × StatusLicence h r
IsForeign h (CheckSecondaryLocks r) = Unit {0}
IsForeign h (UnsafeDestroyRange r) = ⊥
IsForeign h (GetRegion r) = Unit {0}
IsForeign h (GetRegionById r) = Unit {0}
IsForeign h (GetStore r) = Unit {0}
IsForeign h (GetAllStores r) = Unit {0}
IsForeign h (UpdateGcSafePoint r) = ⊥
IsForeign h (Tso r) = Unit {0}
IsForeign h (Members r) = Unit {0}
