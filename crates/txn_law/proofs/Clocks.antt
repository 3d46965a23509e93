-- What a request does to the last timestamp and to the greatest read.
use Rattle.std.proofs.Common.{◌≤◌, max, Bool, true, false, List, [], ◌∷◌, Option, Some, None, subst, sym, arith}
use Rattle.std.specs.Prelude.{if◌then◌else◌}
use Rattle.txn_kv.specs.declared.message.KeyError.{KeyError}
use Rattle.txn_kv.specs.declared.message.RegionErr.{RegionErr}
use Rattle.txn_kv.specs.declared.request.Request.{Request}
use Rattle.txn_kv.specs.declared.request.Request.TheVariants.{Get, BatchGet, Scan, Prewrite, Commit, Cleanup, BatchRollback, PessimisticRollback, PessimisticLock, ResolveLock, ScanLock, TxnHeartBeat, CheckTxnStatus, CheckSecondaryLocks, UnsafeDestroyRange, GetRegion, GetRegionById, GetStore, GetAllStores, UpdateGcSafePoint, Tso, Members}
use Rattle.txn_model.specs.declared.cell.Lock.{Lock}
use Rattle.txn_model.specs.declared.cell.Write.{Write}
use Rattle.txn_model.specs.Cells.{cell_at}
use Rattle.txn_model.specs.Commit.{commit_by, first_commit_error}
use Rattle.txn_model.specs.Locks.{commit_of}
use Rattle.txn_model.specs.PessimisticLock.{pessimistic_lock_by, pessimistic_errors}
use Rattle.txn_model.specs.Placement.{region_check, next_timestamp}
use Rattle.txn_model.specs.Read.{get_by, batch_get_by, scan_by}
use Rattle.txn_model.specs.Resolve.{resolve_lock_by, scan_lock_by}
use Rattle.txn_model.specs.Rollback.{batch_rollback_by, first_rollback_error, pessimistic_rollback_by, cleanup_by, cleanup_refusal}
use Rattle.txn_model.specs.Settle.{lock_of_start}
use Rattle.txn_model.specs.Status.{txn_heart_beat_by, check_txn_status_by, check_secondary_locks_by, finding}
use Rattle.txn_model.specs.Store.{Store}
use Rattle.txn_model.specs.Prewrite.{prewrite_by, prewrite_errors, passed_commit, one_phase_by, locking_by}
use Rattle.txn_model.specs.Table.{table}
use Rattle.txn_law.proofs.Invariant.{read_time}
use Rattle.txn_law.proofs.Replies.{first_above}
use Rattle.txn_model.specs.Served.{last_by, last_after, others_stay}

-- the last timestamp never falls
pub last_stays : (st : Store) (r : Request) → st.last ≤ (table st r).store.last
last_stays st r = subst (λ n. st.last ≤ n) (sym (last_after st r)) (by r)
  where
    by : (q : Request) → st.last ≤ last_by st q
    by (Tso q) = let h = first_above (next_timestamp st.last st.clock) q.count in omega (arith, h)
    by _ = omega arith

-- nor does the greatest read
pub reads_rise : (st : Store) (r : Request) → st.max_read ≤ (table st r).store.max_read
reads_rise st r = (others_stay st r).max_read

-- which is no read but the request's own
pub reads_so_far : (st : Store) (r : Request) → (table st r).store.max_read ≤ max st.max_read (read_time r)
reads_so_far st (Prewrite r) = by (region_check st.regions r.context) (prewrite_errors st.cells r r.mutations r.is_pessimistic_lock) (passed_commit st.cells r.start_version r.mutations)
  where
    by_once : (b : Bool) (w : Option Write) → (if b then one_phase_by w st r else locking_by st r).store.max_read ≤ max st.max_read 0
    by_once true None = omega arith
    by_once true (Some w) = omega arith
    by_once false w = omega arith

    by : (e : Option RegionErr) (es : List KeyError) (w : Option Write) → (prewrite_by e es w st r).store.max_read ≤ max st.max_read 0
    by (Some e) es w = omega arith
    by None (x ∷ xs) w = omega arith
    by None [] w = by_once r.try_one_pc w
reads_so_far st (Cleanup r) = by (region_check st.regions r.context) (cleanup_refusal r.key r.start_version (cell_at st.cells r.key).lock) (commit_of (cell_at st.cells r.key).commits r.start_version)
  where
    by : (e : Option RegionErr) (x : Option KeyError) (w : Option Write) → (cleanup_by e x w st r).store.max_read ≤ max st.max_read 0
    by (Some e) x w = omega arith
    by None (Some x) w = omega arith
    by None None (Some w) = omega arith
    by None None None = omega arith
reads_so_far st (CheckTxnStatus r) = by (region_check st.regions r.context)
  where
    by : (e : Option RegionErr) → (check_txn_status_by e (finding r (cell_at st.cells r.primary_key)) st r).store.max_read ≤ max st.max_read 0
    by (Some e) = omega arith
    by None = omega arith
reads_so_far st (Get r) = by (region_check st.regions r.context)
  where
    by : (e : Option RegionErr) → (get_by e st r).store.max_read ≤ max st.max_read r.version
    by (Some e) = omega arith
    by None = omega arith
reads_so_far st (BatchGet r) = by (region_check st.regions r.context)
  where
    by : (e : Option RegionErr) → (batch_get_by e st r).store.max_read ≤ max st.max_read r.version
    by (Some e) = omega arith
    by None = omega arith
reads_so_far st (Scan r) = by (region_check st.regions r.context)
  where
    by : (e : Option RegionErr) → (scan_by e st r).store.max_read ≤ max st.max_read r.version
    by (Some e) = omega arith
    by None = omega arith
reads_so_far st (Commit r) = by (region_check st.regions r.context) (first_commit_error st.cells r r.keys)
  where
    by : (e : Option RegionErr) (x : Option KeyError) → (commit_by e x st r).store.max_read ≤ max st.max_read 0
    by (Some e) x = omega arith
    by None (Some x) = omega arith
    by None None = omega arith
reads_so_far st (BatchRollback r) = by (region_check st.regions r.context) (first_rollback_error st.cells r.start_version r.keys)
  where
    by : (e : Option RegionErr) (x : Option KeyError) → (batch_rollback_by e x st r).store.max_read ≤ max st.max_read 0
    by (Some e) x = omega arith
    by None (Some x) = omega arith
    by None None = omega arith
reads_so_far st (PessimisticRollback r) = by (region_check st.regions r.context)
  where
    by : (e : Option RegionErr) → (pessimistic_rollback_by e st r).store.max_read ≤ max st.max_read 0
    by (Some e) = omega arith
    by None = omega arith
reads_so_far st (PessimisticLock r) = by (region_check st.regions r.context) (pessimistic_errors st.cells r)
  where
    by : (e : Option RegionErr) (es : List KeyError) → (pessimistic_lock_by e es st r).store.max_read ≤ max st.max_read r.for_update_ts
    by (Some e) es = omega arith
    by None (x ∷ xs) = omega arith
    by None [] = omega arith
reads_so_far st (ResolveLock r) = by (region_check st.regions r.context)
  where
    by : (e : Option RegionErr) → (resolve_lock_by e st r).store.max_read ≤ max st.max_read 0
    by (Some e) = omega arith
    by None = omega arith
reads_so_far st (ScanLock r) = by (region_check st.regions r.context)
  where
    by : (e : Option RegionErr) → (scan_lock_by e st r).store.max_read ≤ max st.max_read 0
    by (Some e) = omega arith
    by None = omega arith
reads_so_far st (TxnHeartBeat r) = by (region_check st.regions r.context) (lock_of_start r.start_version (cell_at st.cells r.primary_lock).lock)
  where
    by : (e : Option RegionErr) (l : Option Lock) → (txn_heart_beat_by e l st r).store.max_read ≤ max st.max_read 0
    by (Some e) l = omega arith
    by None (Some l) = omega arith
    by None None = omega arith
reads_so_far st (CheckSecondaryLocks r) = by (region_check st.regions r.context)
  where
    by : (e : Option RegionErr) → (check_secondary_locks_by e st r).store.max_read ≤ max st.max_read 0
    by (Some e) = omega arith
    by None = omega arith
reads_so_far st (UnsafeDestroyRange r) = omega arith
reads_so_far st (GetRegion r) = omega arith
reads_so_far st (GetRegionById r) = omega arith
reads_so_far st (GetStore r) = omega arith
reads_so_far st (GetAllStores r) = omega arith
reads_so_far st (UpdateGcSafePoint r) = omega arith
reads_so_far st (Tso r) = omega arith
reads_so_far st (Members r) = omega arith
