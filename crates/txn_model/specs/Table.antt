-- The request table: what a store makes of each request, and what it replies.
use Rattle.std.specs.Prelude.{◌^◌, ◌≤◌, ◌<◌}
use Rattle.txn_kv.specs.declared.request.Request.{Request}
use Rattle.txn_kv.specs.declared.request.Request.TheVariants.{Get, BatchGet, Scan, Prewrite, Commit, Cleanup, BatchRollback, PessimisticRollback, PessimisticLock, ResolveLock, ScanLock, TxnHeartBeat, CheckTxnStatus, CheckSecondaryLocks, UnsafeDestroyRange, GetRegion, GetRegionById, GetStore, GetAllStores, UpdateGcSafePoint, Tso, Members}
use Rattle.txn_kv.specs.declared.request.cluster.TsoRequest.{TsoRequest}
use Rattle.txn_model.specs.Store.{Store}
pub use Rattle.txn_model.specs.Handled.{Handled}
pub use Rattle.txn_model.specs.Commit.{commit_row}
pub use Rattle.txn_model.specs.Destroy.{unsafe_destroy_range_row}
pub use Rattle.txn_model.specs.PessimisticLock.{pessimistic_lock_row}
pub use Rattle.txn_model.specs.Placement.{region_check, get_region_row, get_region_by_id_row, get_store_row, get_all_stores_row, update_gc_safe_point_row, tso_row, members_row}
pub use Rattle.txn_model.specs.Prewrite.{prewrite_row}
pub use Rattle.txn_model.specs.Read.{get_row, batch_get_row, scan_row}
pub use Rattle.txn_model.specs.Resolve.{resolve_lock_row, scan_lock_row}
pub use Rattle.txn_model.specs.Rollback.{batch_rollback_row, cleanup_row, pessimistic_rollback_row}
pub use Rattle.txn_model.specs.Status.{check_txn_status_row, check_secondary_locks_row, txn_heart_beat_row}

abbrev pub table : Store → Request → Handled
table st (Get r) = get_row st r
table st (BatchGet r) = batch_get_row st r
table st (Scan r) = scan_row st r
table st (Prewrite r) = prewrite_row st r
table st (Commit r) = commit_row st r
table st (Cleanup r) = cleanup_row st r
table st (BatchRollback r) = batch_rollback_row st r
table st (PessimisticRollback r) = pessimistic_rollback_row st r
table st (PessimisticLock r) = pessimistic_lock_row st r
table st (ResolveLock r) = resolve_lock_row st r
table st (ScanLock r) = scan_lock_row st r
table st (TxnHeartBeat r) = txn_heart_beat_row st r
table st (CheckTxnStatus r) = check_txn_status_row st r
table st (CheckSecondaryLocks r) = check_secondary_locks_row st r
table st (UnsafeDestroyRange r) = unsafe_destroy_range_row st r
table st (GetRegion r) = get_region_row st r
table st (GetRegionById r) = get_region_by_id_row st r
table st (GetStore r) = get_store_row st r
table st (GetAllStores r) = get_all_stores_row st r
table st (UpdateGcSafePoint r) = update_gc_safe_point_row st r
table st (Tso r) = tso_row st r
table st (Members r) = members_row st r

-- the oracle can count on
pub record CanCount (st : Store) (r : TsoRequest) : Type 0 where
  pub some : 1 ≤ r.count
  pub few : r.count ≤ 64
  pub last_bits : st.last < 2 ^ 63
  pub clock_bits : st.clock < 2 ^ 44

abbrev pub CanServe : Store → Request → Type 0
CanServe st (Get r) = Unit {0}
CanServe st (BatchGet r) = Unit {0}
CanServe st (Scan r) = Unit {0}
CanServe st (Prewrite r) = Unit {0}
CanServe st (Commit r) = Unit {0}
CanServe st (Cleanup r) = Unit {0}
CanServe st (BatchRollback r) = Unit {0}
CanServe st (PessimisticRollback r) = Unit {0}
CanServe st (PessimisticLock r) = Unit {0}
CanServe st (ResolveLock r) = Unit {0}
CanServe st (ScanLock r) = Unit {0}
CanServe st (TxnHeartBeat r) = Unit {0}
CanServe st (CheckTxnStatus r) = Unit {0}
CanServe st (CheckSecondaryLocks r) = Unit {0}
CanServe st (UnsafeDestroyRange r) = Unit {0}
CanServe st (GetRegion r) = Unit {0}
CanServe st (GetRegionById r) = Unit {0}
CanServe st (GetStore r) = Unit {0}
CanServe st (GetAllStores r) = Unit {0}
CanServe st (UpdateGcSafePoint r) = Unit {0}
CanServe st (Tso r) = CanCount st r
CanServe st (Members r) = Unit {0}
