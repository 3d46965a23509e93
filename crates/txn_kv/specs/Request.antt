-- The calls of a request.
use Rattle.std.specs.Prelude.{ℕ, List, Option, Some, None, codes}
use Rattle.txn_kv.specs.declared.message.Context.{Context}
use Rattle.txn_kv.specs.declared.message.ApiVersion.{ApiVersion}
use Rattle.txn_kv.specs.declared.request.Request.{Request}
use Rattle.txn_kv.specs.declared.request.Request.TheVariants.{Get, BatchGet, Scan, Prewrite, Commit, Cleanup, BatchRollback, PessimisticRollback, PessimisticLock, ResolveLock, ScanLock, TxnHeartBeat, CheckTxnStatus, CheckSecondaryLocks, UnsafeDestroyRange, GetRegion, GetRegionById, GetStore, GetAllStores, UpdateGcSafePoint, Tso, Members}

-- the name under which its calls are counted
abbrev pub label_of : Request → List ℕ
label_of (Get r) = codes "kv_get"
label_of (BatchGet r) = codes "kv_batch_get"
label_of (Scan r) = codes "kv_scan"
label_of (Prewrite r) = codes "kv_prewrite"
label_of (Commit r) = codes "kv_commit"
label_of (Cleanup r) = codes "kv_cleanup"
label_of (BatchRollback r) = codes "kv_batch_rollback"
label_of (PessimisticRollback r) = codes "kv_pessimistic_rollback"
label_of (PessimisticLock r) = codes "kv_pessimistic_lock"
label_of (ResolveLock r) = codes "kv_resolve_lock"
label_of (ScanLock r) = codes "kv_scan_lock"
label_of (TxnHeartBeat r) = codes "kv_txn_heart_beat"
label_of (CheckTxnStatus r) = codes "kv_check_txn_status"
label_of (CheckSecondaryLocks r) = codes "kv_check_secondary_locks_request"
label_of (UnsafeDestroyRange r) = codes "unsafe_destroy_range"
label_of (GetRegion r) = codes "get_region"
label_of (GetRegionById r) = codes "get_region_by_id"
label_of (GetStore r) = codes "get_store"
label_of (GetAllStores r) = codes "get_all_stores"
label_of (UpdateGcSafePoint r) = codes "update_gc_safe_point"
label_of (Tso r) = codes "tso"
label_of (Members r) = codes "members"

-- a context that keeps the api version that stood
abbrev pub keeping_version : Option Context → Context → Context
keeping_version None context = context
keeping_version (Some stood) context = record context { api_version = stood.api_version }

-- the context that stood, or a default one, with this api version
abbrev pub versioned : Option Context → ApiVersion → Context
versioned None version = record { region_id = 0; region_epoch = None; peer = None; api_version = version }
versioned (Some stood) version = record stood { api_version = version }

-- a request to a store gets the context, and keeps its api version
abbrev pub with_context : Context → Request → Request
with_context context (Get r) = Get (record r { context = Some (keeping_version r.context context) })
with_context context (BatchGet r) = BatchGet (record r { context = Some (keeping_version r.context context) })
with_context context (Scan r) = Scan (record r { context = Some (keeping_version r.context context) })
with_context context (Prewrite r) = Prewrite (record r { context = Some (keeping_version r.context context) })
with_context context (Commit r) = Commit (record r { context = Some (keeping_version r.context context) })
with_context context (Cleanup r) = Cleanup (record r { context = Some (keeping_version r.context context) })
with_context context (BatchRollback r) = BatchRollback (record r { context = Some (keeping_version r.context context) })
with_context context (PessimisticRollback r) = PessimisticRollback (record r { context = Some (keeping_version r.context context) })
with_context context (PessimisticLock r) = PessimisticLock (record r { context = Some (keeping_version r.context context) })
with_context context (ResolveLock r) = ResolveLock (record r { context = Some (keeping_version r.context context) })
with_context context (ScanLock r) = ScanLock (record r { context = Some (keeping_version r.context context) })
with_context context (TxnHeartBeat r) = TxnHeartBeat (record r { context = Some (keeping_version r.context context) })
with_context context (CheckTxnStatus r) = CheckTxnStatus (record r { context = Some (keeping_version r.context context) })
with_context context (CheckSecondaryLocks r) = CheckSecondaryLocks (record r { context = Some (keeping_version r.context context) })
with_context context (UnsafeDestroyRange r) = UnsafeDestroyRange (record r { context = Some (keeping_version r.context context) })
with_context context (GetRegion r) = GetRegion r
with_context context (GetRegionById r) = GetRegionById r
with_context context (GetStore r) = GetStore r
with_context context (GetAllStores r) = GetAllStores r
with_context context (UpdateGcSafePoint r) = UpdateGcSafePoint r
with_context context (Tso r) = Tso r
with_context context (Members r) = Members r

-- a request to a store gets the api version
abbrev pub with_api_version : ApiVersion → Request → Request
with_api_version version (Get r) = Get (record r { context = Some (versioned r.context version) })
with_api_version version (BatchGet r) = BatchGet (record r { context = Some (versioned r.context version) })
with_api_version version (Scan r) = Scan (record r { context = Some (versioned r.context version) })
with_api_version version (Prewrite r) = Prewrite (record r { context = Some (versioned r.context version) })
with_api_version version (Commit r) = Commit (record r { context = Some (versioned r.context version) })
with_api_version version (Cleanup r) = Cleanup (record r { context = Some (versioned r.context version) })
with_api_version version (BatchRollback r) = BatchRollback (record r { context = Some (versioned r.context version) })
with_api_version version (PessimisticRollback r) = PessimisticRollback (record r { context = Some (versioned r.context version) })
with_api_version version (PessimisticLock r) = PessimisticLock (record r { context = Some (versioned r.context version) })
with_api_version version (ResolveLock r) = ResolveLock (record r { context = Some (versioned r.context version) })
with_api_version version (ScanLock r) = ScanLock (record r { context = Some (versioned r.context version) })
with_api_version version (TxnHeartBeat r) = TxnHeartBeat (record r { context = Some (versioned r.context version) })
with_api_version version (CheckTxnStatus r) = CheckTxnStatus (record r { context = Some (versioned r.context version) })
with_api_version version (CheckSecondaryLocks r) = CheckSecondaryLocks (record r { context = Some (versioned r.context version) })
with_api_version version (UnsafeDestroyRange r) = UnsafeDestroyRange (record r { context = Some (versioned r.context version) })
with_api_version version (GetRegion r) = GetRegion r
with_api_version version (GetRegionById r) = GetRegionById r
with_api_version version (GetStore r) = GetStore r
with_api_version version (GetAllStores r) = GetAllStores r
with_api_version version (UpdateGcSafePoint r) = UpdateGcSafePoint r
with_api_version version (Tso r) = Tso r
with_api_version version (Members r) = Members r
