-- Cells stay in the order of their keys, and none is empty.
use Rattle.std.proofs.Common.{Bool, true, false, if◌then◌else◌, List, [], ◌∷◌, Option, Some, None, not, refl}
use Rattle.txn_kv.specs.declared.message.KeyError.{KeyError}
use Rattle.txn_kv.specs.declared.message.RegionErr.{RegionErr}
use Rattle.txn_kv.specs.declared.request.reads.BatchGetRequest.{BatchGetRequest}
use Rattle.txn_kv.specs.declared.request.commits.BatchRollbackRequest.{BatchRollbackRequest}
use Rattle.txn_kv.specs.declared.request.locks.CheckSecondaryLocksRequest.{CheckSecondaryLocksRequest}
use Rattle.txn_kv.specs.declared.request.locks.CheckTxnStatusRequest.{CheckTxnStatusRequest}
use Rattle.txn_kv.specs.declared.request.locks.CleanupRequest.{CleanupRequest}
use Rattle.txn_kv.specs.declared.request.commits.CommitRequest.{CommitRequest}
use Rattle.txn_kv.specs.declared.request.reads.GetRequest.{GetRequest}
use Rattle.txn_kv.specs.declared.request.locks.PessimisticLockRequest.{PessimisticLockRequest}
use Rattle.txn_kv.specs.declared.request.locks.PessimisticRollbackRequest.{PessimisticRollbackRequest}
use Rattle.txn_kv.specs.declared.request.commits.PrewriteRequest.{PrewriteRequest}
use Rattle.txn_kv.specs.declared.request.Request.{Request}
use Rattle.txn_kv.specs.declared.request.Request.TheVariants.{Get, BatchGet, Scan, Prewrite, Commit, Cleanup, BatchRollback, PessimisticRollback, PessimisticLock, ResolveLock, ScanLock, TxnHeartBeat, CheckTxnStatus, CheckSecondaryLocks, UnsafeDestroyRange, GetRegion, GetRegionById, GetStore, GetAllStores, UpdateGcSafePoint, Tso, Members}
use Rattle.txn_kv.specs.declared.request.locks.ResolveLockRequest.{ResolveLockRequest}
use Rattle.txn_kv.specs.declared.request.locks.ScanLockRequest.{ScanLockRequest}
use Rattle.txn_kv.specs.declared.request.reads.ScanRequest.{ScanRequest}
use Rattle.txn_kv.specs.declared.request.commits.TxnHeartBeatRequest.{TxnHeartBeatRequest}
use Rattle.txn_model.specs.declared.cell.Cell.{Cell}
use Rattle.txn_model.specs.declared.cell.Lock.{Lock}
use Rattle.txn_model.specs.declared.cell.Write.{Write}
use Rattle.txn_model.specs.declared.rule.Rule.TheVariants.{RollBack, RollBackMissing, ReleaseUpTo}
use Rattle.txn_model.specs.Cells.{cell_at, AreKept}
use Rattle.txn_model.specs.Commit.{commit_by, first_commit_error, committed}
use Rattle.txn_model.specs.Locks.{commit_of}
use Rattle.txn_model.specs.PessimisticLock.{pessimistic_lock_by, pessimistic_errors, locked_for_update}
use Rattle.txn_model.specs.Placement.{region_check}
use Rattle.txn_model.specs.Prewrite.{least_bound, prewrite_by, prewrite_errors, passed_commit, one_phase_by, locking_by, prewrite_cell, land_cell, mutation_keys}
use Rattle.txn_model.specs.Ranges.{in_range}
use Rattle.txn_model.specs.Read.{get_by, batch_get_by, scan_by}
use Rattle.txn_model.specs.Resolve.{resolve_lock_by, scan_lock_by}
use Rattle.txn_model.specs.Rollback.{batch_rollback_by, first_rollback_error, cleanup_refusal, cleanup_by, pessimistic_rollback_by, released_by}
use Rattle.txn_model.specs.Settle.{rolled_back, lock_of_start}
use Rattle.txn_model.specs.Status.{Finding, finding, status_cell, check_txn_status_by, check_secondary_locks_by, missing_rolled_back, txn_heart_beat_by, with_lock, longer_lived}
use Rattle.txn_model.specs.Store.{Store}
use Rattle.txn_model.specs.Table.{table}
use Rattle.txn_model.proofs.CellLists.{kept_changed}
use Rattle.txn_model.proofs.Filtering.{kept_filter}
use Rattle.txn_model.proofs.Folding.{prewrite_key, land_key}
use Rattle.txn_model.proofs.Ruling.{rule_keeps_keys, status_keeps_keys}
use Rattle.txn_model.proofs.Settled.{kept_settled}
use Rattle.txn_model.proofs.Unlocking.{commit_key_same}

prewrite_kept : (e : Option RegionErr) (es : List KeyError) (w : Option Write) (st : Store) (r : PrewriteRequest) → AreKept st.cells → AreKept (prewrite_by e es w st r).store.cells
prewrite_kept (Some e) es w st r kept = kept
prewrite_kept None (e ∷ es) w st r kept = kept
prewrite_kept None [] w st r kept = by r.try_one_pc w
  where
    by : (b : Bool) (v : Option Write) → AreKept (if b then one_phase_by v st r else locking_by st r).store.cells
    by true (Some v) = kept
    by true None = kept_changed (mutation_keys r.mutations) (land_cell r (least_bound st r) r.mutations) (land_key r (least_bound st r) r.mutations) st.cells kept.in_order
    by false v = kept_changed (mutation_keys r.mutations) (prewrite_cell r (least_bound st r) r.mutations) (prewrite_key r (least_bound st r) r.mutations) st.cells kept.in_order

commit_kept : (e : Option RegionErr) (o : Option KeyError) (st : Store) (r : CommitRequest) → AreKept st.cells → AreKept (commit_by e o st r).store.cells
commit_kept (Some e) o st r kept = kept
commit_kept None (Some e) st r kept = kept
commit_kept None None st r kept = kept_changed r.keys (committed r.start_version r.commit_version) (commit_key_same r.start_version r.commit_version) st.cells kept.in_order

get_kept : (e : Option RegionErr) (st : Store) (r : GetRequest) → AreKept st.cells → AreKept (get_by e st r).store.cells
get_kept (Some e) st r kept = kept
get_kept None st r kept = kept

batch_get_kept : (e : Option RegionErr) (st : Store) (r : BatchGetRequest) → AreKept st.cells → AreKept (batch_get_by e st r).store.cells
batch_get_kept (Some e) st r kept = kept
batch_get_kept None st r kept = kept

scan_kept : (e : Option RegionErr) (st : Store) (r : ScanRequest) → AreKept st.cells → AreKept (scan_by e st r).store.cells
scan_kept (Some e) st r kept = kept
scan_kept None st r kept = kept

scan_lock_kept : (e : Option RegionErr) (st : Store) (r : ScanLockRequest) → AreKept st.cells → AreKept (scan_lock_by e st r).store.cells
scan_lock_kept (Some e) st r kept = kept
scan_lock_kept None st r kept = kept

batch_rollback_kept : (e : Option RegionErr) (o : Option KeyError) (st : Store) (r : BatchRollbackRequest) → AreKept st.cells → AreKept (batch_rollback_by e o st r).store.cells
batch_rollback_kept (Some e) o st r kept = kept
batch_rollback_kept None (Some e) st r kept = kept
batch_rollback_kept None None st r kept = kept_changed r.keys (rolled_back r.start_version) (rule_keeps_keys (RollBack r.start_version)) st.cells kept.in_order

cleanup_kept : (e : Option RegionErr) (l : Option KeyError) (w : Option Write) (st : Store) (r : CleanupRequest) → AreKept st.cells → AreKept (cleanup_by e l w st r).store.cells
cleanup_kept (Some e) l w st r kept = kept
cleanup_kept None (Some l) w st r kept = kept
cleanup_kept None None (Some w) st r kept = kept
cleanup_kept None None None st r kept = kept_changed (r.key ∷ []) (rolled_back r.start_version) (rule_keeps_keys (RollBack r.start_version)) st.cells kept.in_order

pessimistic_rollback_kept : (e : Option RegionErr) (st : Store) (r : PessimisticRollbackRequest) → AreKept st.cells → AreKept (pessimistic_rollback_by e st r).store.cells
pessimistic_rollback_kept (Some e) st r kept = kept
pessimistic_rollback_kept None st r kept = kept_changed r.keys (released_by r.start_version r.for_update_ts) (rule_keeps_keys (ReleaseUpTo r.start_version r.for_update_ts)) st.cells kept.in_order

pessimistic_lock_kept : (e : Option RegionErr) (es : List KeyError) (st : Store) (r : PessimisticLockRequest) → AreKept st.cells → AreKept (pessimistic_lock_by e es st r).store.cells
pessimistic_lock_kept (Some e) es st r kept = kept
pessimistic_lock_kept None (e ∷ es) st r kept = kept
pessimistic_lock_kept None [] st r kept = kept_changed (mutation_keys r.mutations) (locked_for_update r) (λ c. refl) st.cells kept.in_order

resolve_lock_kept : (e : Option RegionErr) (st : Store) (r : ResolveLockRequest) → AreKept st.cells → AreKept (resolve_lock_by e st r).store.cells
resolve_lock_kept (Some e) st r kept = kept
resolve_lock_kept None st r kept = kept_settled st.regions r st.cells kept

txn_heart_beat_kept : (e : Option RegionErr) (l : Option Lock) (st : Store) (r : TxnHeartBeatRequest) → AreKept st.cells → AreKept (txn_heart_beat_by e l st r).store.cells
txn_heart_beat_kept (Some e) l st r kept = kept
txn_heart_beat_kept None None st r kept = kept
txn_heart_beat_kept None (Some l) st r kept = kept_changed (r.primary_lock ∷ []) (with_lock (longer_lived r.advise_lock_ttl l)) (λ c. refl) st.cells kept.in_order

check_txn_status_kept : (e : Option RegionErr) (f : Finding) (st : Store) (r : CheckTxnStatusRequest) → AreKept st.cells → AreKept (check_txn_status_by e f st r).store.cells
check_txn_status_kept (Some e) f st r kept = kept
check_txn_status_kept None f st r kept = kept_changed (r.primary_key ∷ []) (status_cell r f) (status_keeps_keys r f) st.cells kept.in_order

check_secondary_locks_kept : (e : Option RegionErr) (st : Store) (r : CheckSecondaryLocksRequest) → AreKept st.cells → AreKept (check_secondary_locks_by e st r).store.cells
check_secondary_locks_kept (Some e) st r kept = kept
check_secondary_locks_kept None st r kept = kept_changed r.keys (missing_rolled_back r.start_version) (rule_keeps_keys (RollBackMissing r.start_version)) st.cells kept.in_order

pub kept_after : (st : Store) (r : Request) → AreKept st.cells → AreKept (table st r).store.cells
kept_after st (Get r) kept = get_kept (region_check st.regions r.context) st r kept
kept_after st (BatchGet r) kept = batch_get_kept (region_check st.regions r.context) st r kept
kept_after st (Scan r) kept = scan_kept (region_check st.regions r.context) st r kept
kept_after st (Prewrite r) kept = prewrite_kept (region_check st.regions r.context) (prewrite_errors st.cells r r.mutations r.is_pessimistic_lock) (passed_commit st.cells r.start_version r.mutations) st r kept
kept_after st (Commit r) kept = commit_kept (region_check st.regions r.context) (first_commit_error st.cells r r.keys) st r kept
kept_after st (Cleanup r) kept = let c = cell_at st.cells r.key in cleanup_kept (region_check st.regions r.context) (cleanup_refusal r.key r.start_version c.lock) (commit_of c.commits r.start_version) st r kept
kept_after st (BatchRollback r) kept = batch_rollback_kept (region_check st.regions r.context) (first_rollback_error st.cells r.start_version r.keys) st r kept
kept_after st (PessimisticRollback r) kept = pessimistic_rollback_kept (region_check st.regions r.context) st r kept
kept_after st (PessimisticLock r) kept = pessimistic_lock_kept (region_check st.regions r.context) (pessimistic_errors st.cells r) st r kept
kept_after st (ResolveLock r) kept = resolve_lock_kept (region_check st.regions r.context) st r kept
kept_after st (ScanLock r) kept = scan_lock_kept (region_check st.regions r.context) st r kept
kept_after st (TxnHeartBeat r) kept = txn_heart_beat_kept (region_check st.regions r.context) (lock_of_start r.start_version (cell_at st.cells r.primary_lock).lock) st r kept
kept_after st (CheckTxnStatus r) kept = check_txn_status_kept (region_check st.regions r.context) (finding r (cell_at st.cells r.primary_key)) st r kept
kept_after st (CheckSecondaryLocks r) kept = check_secondary_locks_kept (region_check st.regions r.context) st r kept
kept_after st (UnsafeDestroyRange r) kept = kept_filter (λ (c : Cell). not (in_range r.start_key r.end_key c.key)) st.cells kept
kept_after st (GetRegion r) kept = kept
kept_after st (GetRegionById r) kept = kept
kept_after st (GetStore r) kept = kept
kept_after st (GetAllStores r) kept = kept
kept_after st (UpdateGcSafePoint r) kept = kept
kept_after st (Tso r) kept = kept
kept_after st (Members r) kept = kept
