-- What a request leaves as it was, and what the oracle's last timestamp becomes.
use Rattle.std.proofs.Common.{◌≡◌, ℕ, ◌+◌, ◌-◌, ◌*◌, ◌/◌, ◌%◌, ◌^◌, ◌<◌, ◌≤◌, max, Bool, true, false, if◌then◌else◌, List, [], ◌∷◌, Option, Some, None, nat_lt, refl, arith}
use Rattle.std.proofs.lemmas.Bool.Decides.{nat_tests}
use Rattle.txn_kv.specs.declared.message.KeyError.{KeyError}
use Rattle.txn_kv.specs.declared.message.RegionErr.{RegionErr}
use Rattle.txn_kv.specs.declared.request.reads.BatchGetRequest.{BatchGetRequest}
use Rattle.txn_kv.specs.declared.request.commits.BatchRollbackRequest.{BatchRollbackRequest}
use Rattle.txn_kv.specs.declared.request.locks.CheckSecondaryLocksRequest.{CheckSecondaryLocksRequest}
use Rattle.txn_kv.specs.declared.request.locks.CheckTxnStatusRequest.{CheckTxnStatusRequest}
use Rattle.txn_kv.specs.declared.request.locks.CleanupRequest.{CleanupRequest}
use Rattle.txn_kv.specs.declared.request.commits.CommitRequest.{CommitRequest}
use Rattle.txn_kv.specs.declared.request.reads.GetRequest.{GetRequest}
use Rattle.txn_kv.specs.declared.request.locks.PessimisticLockRequest.{PessimisticLockRequest}
use Rattle.txn_kv.specs.declared.request.locks.PessimisticRollbackRequest.{PessimisticRollbackRequest}
use Rattle.txn_kv.specs.declared.request.commits.PrewriteRequest.{PrewriteRequest}
use Rattle.txn_kv.specs.declared.request.locks.ResolveLockRequest.{ResolveLockRequest}
use Rattle.txn_kv.specs.declared.request.locks.ScanLockRequest.{ScanLockRequest}
use Rattle.txn_kv.specs.declared.request.reads.ScanRequest.{ScanRequest}
use Rattle.txn_kv.specs.declared.request.commits.TxnHeartBeatRequest.{TxnHeartBeatRequest}
use Rattle.txn_kv.specs.declared.request.Request.{Request}
use Rattle.txn_kv.specs.declared.request.Request.TheVariants.{Get, BatchGet, Scan, Prewrite, Commit, Cleanup, BatchRollback, PessimisticRollback, PessimisticLock, ResolveLock, ScanLock, TxnHeartBeat, CheckTxnStatus, CheckSecondaryLocks, UnsafeDestroyRange, GetRegion, GetRegionById, GetStore, GetAllStores, UpdateGcSafePoint, Tso, Members}
use Rattle.txn_model.specs.declared.cell.Cell.{Cell}
use Rattle.txn_model.specs.declared.cell.Lock.{Lock}
use Rattle.txn_model.specs.declared.cell.Write.{Write}
use Rattle.txn_model.specs.Cells.{cell_at}
use Rattle.txn_model.specs.Commit.{commit_by, first_commit_error}
use Rattle.txn_model.specs.Locks.{commit_of}
use Rattle.txn_model.specs.PessimisticLock.{pessimistic_lock_by, pessimistic_errors}
use Rattle.txn_model.specs.Placement.{region_check, next_timestamp, first_from, last_timestamp}
use Rattle.txn_model.specs.Prewrite.{prewrite_by, prewrite_errors, passed_commit, one_phase_by, locking_by, prewritten_cells, landed_cells}
use Rattle.txn_model.specs.Read.{read_at, get_by, batch_get_by, scan_by}
use Rattle.txn_model.specs.Resolve.{resolve_lock_by, scan_lock_by}
use Rattle.txn_model.specs.Rollback.{batch_rollback_by, first_rollback_error, cleanup_refusal, cleanup_by, pessimistic_rollback_by}
use Rattle.txn_model.specs.Settle.{lock_of_start}
use Rattle.txn_model.specs.Status.{Finding, finding, txn_heart_beat_by, check_txn_status_by, check_secondary_locks_by}
use Rattle.txn_model.specs.Store.{Store}
use Rattle.txn_model.specs.Table.{table, CanServe}

-- the last timestamp after a request
abbrev pub last_by : Store → Request → ℕ
last_by st (Tso r) = last_timestamp st.last st.clock r.count
last_by st _ = st.last

-- what stands beside the cells and the last timestamp is as it was, and neither the greatest read nor the safe point falls
pub record OthersStay (old new : Store) : Type 0 where
  pub regions : new.regions ≡ old.regions
  pub stores : new.stores ≡ old.stores
  pub clock : new.clock ≡ old.clock
  pub max_read : old.max_read ≤ new.max_read
  pub safepoint : old.safepoint ≤ new.safepoint

with_cells : (st : Store) (cs : List Cell) → OthersStay st (record st { cells = cs })
with_cells st cs = record { regions = refl; stores = refl; clock = refl; max_read = omega arith; safepoint = omega arith }

after_read : (st : Store) (t : ℕ) (cs : List Cell) → OthersStay st (record (read_at t st) { cells = cs })
after_read st t cs = record { regions = refl; stores = refl; clock = refl; max_read = omega arith; safepoint = omega arith }

get_stays : (e : Option RegionErr) (st : Store) (r : GetRequest) → OthersStay st (get_by e st r).store × ((get_by e st r).store.last ≡ st.last)
get_stays (Some e) st r = (with_cells st (get_by (Some e) st r).store.cells, refl)
get_stays None st r = (after_read st r.version (get_by None st r).store.cells, refl)

batch_get_stays : (e : Option RegionErr) (st : Store) (r : BatchGetRequest) → OthersStay st (batch_get_by e st r).store × ((batch_get_by e st r).store.last ≡ st.last)
batch_get_stays (Some e) st r = (with_cells st (batch_get_by (Some e) st r).store.cells, refl)
batch_get_stays None st r = (after_read st r.version (batch_get_by None st r).store.cells, refl)

scan_stays : (e : Option RegionErr) (st : Store) (r : ScanRequest) → OthersStay st (scan_by e st r).store × ((scan_by e st r).store.last ≡ st.last)
scan_stays (Some e) st r = (with_cells st (scan_by (Some e) st r).store.cells, refl)
scan_stays None st r = (after_read st r.version (scan_by None st r).store.cells, refl)

prewrite_stays : (e : Option RegionErr) (errors : List KeyError) (w : Option Write) (st : Store) (r : PrewriteRequest) → OthersStay st (prewrite_by e errors w st r).store × ((prewrite_by e errors w st r).store.last ≡ st.last)
prewrite_stays (Some e) errors w st r = (with_cells st st.cells, refl)
prewrite_stays None (x ∷ xs) w st r = (with_cells st st.cells, refl)
prewrite_stays None [] w st r = by r.try_one_pc w
  where
    by : (b : Bool) (v : Option Write) → OthersStay st (if b then one_phase_by v st r else locking_by st r).store × ((if b then one_phase_by v st r else locking_by st r).store.last ≡ st.last)
    by true (Some v) = (with_cells st st.cells, refl)
    by true None = (with_cells st (landed_cells st r), refl)
    by false v = (with_cells st (prewritten_cells st r), refl)

commit_stays : (e : Option RegionErr) (error : Option KeyError) (st : Store) (r : CommitRequest) → OthersStay st (commit_by e error st r).store × ((commit_by e error st r).store.last ≡ st.last)
commit_stays (Some e) error st r = (with_cells st (commit_by (Some e) error st r).store.cells, refl)
commit_stays None (Some x) st r = (with_cells st (commit_by None (Some x) st r).store.cells, refl)
commit_stays None None st r = (with_cells st (commit_by None None st r).store.cells, refl)

cleanup_stays : (e : Option RegionErr) (x : Option KeyError) (write : Option Write) (st : Store) (r : CleanupRequest) → OthersStay st (cleanup_by e x write st r).store × ((cleanup_by e x write st r).store.last ≡ st.last)
cleanup_stays (Some e) x w st r = (with_cells st (cleanup_by (Some e) x w st r).store.cells, refl)
cleanup_stays None (Some x) w st r = (with_cells st (cleanup_by None (Some x) w st r).store.cells, refl)
cleanup_stays None None (Some w) st r = (with_cells st (cleanup_by None None (Some w) st r).store.cells, refl)
cleanup_stays None None None st r = (with_cells st (cleanup_by None None None st r).store.cells, refl)

batch_rollback_stays : (e : Option RegionErr) (error : Option KeyError) (st : Store) (r : BatchRollbackRequest) → OthersStay st (batch_rollback_by e error st r).store × ((batch_rollback_by e error st r).store.last ≡ st.last)
batch_rollback_stays (Some e) error st r = (with_cells st (batch_rollback_by (Some e) error st r).store.cells, refl)
batch_rollback_stays None (Some x) st r = (with_cells st (batch_rollback_by None (Some x) st r).store.cells, refl)
batch_rollback_stays None None st r = (with_cells st (batch_rollback_by None None st r).store.cells, refl)

pessimistic_rollback_stays : (e : Option RegionErr) (st : Store) (r : PessimisticRollbackRequest) → OthersStay st (pessimistic_rollback_by e st r).store × ((pessimistic_rollback_by e st r).store.last ≡ st.last)
pessimistic_rollback_stays (Some e) st r = (with_cells st (pessimistic_rollback_by (Some e) st r).store.cells, refl)
pessimistic_rollback_stays None st r = (with_cells st (pessimistic_rollback_by None st r).store.cells, refl)

pessimistic_lock_stays : (e : Option RegionErr) (errors : List KeyError) (st : Store) (r : PessimisticLockRequest) → OthersStay st (pessimistic_lock_by e errors st r).store × ((pessimistic_lock_by e errors st r).store.last ≡ st.last)
pessimistic_lock_stays (Some e) errors st r = (with_cells st (pessimistic_lock_by (Some e) errors st r).store.cells, refl)
pessimistic_lock_stays None (x ∷ xs) st r = (after_read st r.for_update_ts (pessimistic_lock_by None (x ∷ xs) st r).store.cells, refl)
pessimistic_lock_stays None [] st r = (after_read st r.for_update_ts (pessimistic_lock_by None [] st r).store.cells, refl)

resolve_lock_stays : (e : Option RegionErr) (st : Store) (r : ResolveLockRequest) → OthersStay st (resolve_lock_by e st r).store × ((resolve_lock_by e st r).store.last ≡ st.last)
resolve_lock_stays (Some e) st r = (with_cells st (resolve_lock_by (Some e) st r).store.cells, refl)
resolve_lock_stays None st r = (with_cells st (resolve_lock_by None st r).store.cells, refl)

scan_lock_stays : (e : Option RegionErr) (st : Store) (r : ScanLockRequest) → OthersStay st (scan_lock_by e st r).store × ((scan_lock_by e st r).store.last ≡ st.last)
scan_lock_stays (Some e) st r = (with_cells st (scan_lock_by (Some e) st r).store.cells, refl)
scan_lock_stays None st r = (with_cells st (scan_lock_by None st r).store.cells, refl)

txn_heart_beat_stays : (e : Option RegionErr) (lock : Option Lock) (st : Store) (r : TxnHeartBeatRequest) → OthersStay st (txn_heart_beat_by e lock st r).store × ((txn_heart_beat_by e lock st r).store.last ≡ st.last)
txn_heart_beat_stays (Some e) lock st r = (with_cells st (txn_heart_beat_by (Some e) lock st r).store.cells, refl)
txn_heart_beat_stays None None st r = (with_cells st (txn_heart_beat_by None None st r).store.cells, refl)
txn_heart_beat_stays None (Some x) st r = (with_cells st (txn_heart_beat_by None (Some x) st r).store.cells, refl)

check_txn_status_stays : (e : Option RegionErr) (found : Finding) (st : Store) (r : CheckTxnStatusRequest) → OthersStay st (check_txn_status_by e found st r).store × ((check_txn_status_by e found st r).store.last ≡ st.last)
check_txn_status_stays (Some e) found st r = (with_cells st (check_txn_status_by (Some e) found st r).store.cells, refl)
check_txn_status_stays None found st r = (with_cells st (check_txn_status_by None found st r).store.cells, refl)

check_secondary_locks_stays : (e : Option RegionErr) (st : Store) (r : CheckSecondaryLocksRequest) → OthersStay st (check_secondary_locks_by e st r).store × ((check_secondary_locks_by e st r).store.last ≡ st.last)
check_secondary_locks_stays (Some e) st r = (with_cells st (check_secondary_locks_by (Some e) st r).store.cells, refl)
check_secondary_locks_stays None st r = (with_cells st (check_secondary_locks_by None st r).store.cells, refl)

pub others_stay : (st : Store) (r : Request) → OthersStay st (table st r).store
others_stay st (Get r) = (get_stays (region_check st.regions r.context) st r).0
others_stay st (BatchGet r) = (batch_get_stays (region_check st.regions r.context) st r).0
others_stay st (Scan r) = (scan_stays (region_check st.regions r.context) st r).0
others_stay st (Prewrite r) = (prewrite_stays (region_check st.regions r.context) (prewrite_errors st.cells r r.mutations r.is_pessimistic_lock) (passed_commit st.cells r.start_version r.mutations) st r).0
others_stay st (Commit r) = (commit_stays (region_check st.regions r.context) (first_commit_error st.cells r r.keys) st r).0
others_stay st (Cleanup r) = (cleanup_stays (region_check st.regions r.context) (cleanup_refusal r.key r.start_version (cell_at st.cells r.key).lock) (commit_of (cell_at st.cells r.key).commits r.start_version) st r).0
others_stay st (BatchRollback r) = (batch_rollback_stays (region_check st.regions r.context) (first_rollback_error st.cells r.start_version r.keys) st r).0
others_stay st (PessimisticRollback r) = (pessimistic_rollback_stays (region_check st.regions r.context) st r).0
others_stay st (PessimisticLock r) = (pessimistic_lock_stays (region_check st.regions r.context) (pessimistic_errors st.cells r) st r).0
others_stay st (ResolveLock r) = (resolve_lock_stays (region_check st.regions r.context) st r).0
others_stay st (ScanLock r) = (scan_lock_stays (region_check st.regions r.context) st r).0
others_stay st (TxnHeartBeat r) = (txn_heart_beat_stays (region_check st.regions r.context) (lock_of_start r.start_version (cell_at st.cells r.primary_lock).lock) st r).0
others_stay st (CheckTxnStatus r) = (check_txn_status_stays (region_check st.regions r.context) (finding r (cell_at st.cells r.primary_key)) st r).0
others_stay st (CheckSecondaryLocks r) = (check_secondary_locks_stays (region_check st.regions r.context) st r).0
others_stay st (UpdateGcSafePoint r) = record { regions = refl; stores = refl; clock = refl; max_read = omega arith; safepoint = omega arith }
others_stay st (UnsafeDestroyRange r) = with_cells st (table st (UnsafeDestroyRange r)).store.cells
others_stay st (GetRegion r) = with_cells st st.cells
others_stay st (GetRegionById r) = with_cells st st.cells
others_stay st (GetStore r) = with_cells st st.cells
others_stay st (GetAllStores r) = with_cells st st.cells
others_stay st (Members r) = with_cells st st.cells
others_stay st (Tso r) = record { regions = refl; stores = refl; clock = refl; max_read = omega arith; safepoint = omega arith }

-- only a Tso changes the last timestamp
pub last_after : (st : Store) (r : Request) → (table st r).store.last ≡ last_by st r
last_after st (Get r) = (get_stays (region_check st.regions r.context) st r).1
last_after st (BatchGet r) = (batch_get_stays (region_check st.regions r.context) st r).1
last_after st (Scan r) = (scan_stays (region_check st.regions r.context) st r).1
last_after st (Prewrite r) = (prewrite_stays (region_check st.regions r.context) (prewrite_errors st.cells r r.mutations r.is_pessimistic_lock) (passed_commit st.cells r.start_version r.mutations) st r).1
last_after st (Commit r) = (commit_stays (region_check st.regions r.context) (first_commit_error st.cells r r.keys) st r).1
last_after st (Cleanup r) = (cleanup_stays (region_check st.regions r.context) (cleanup_refusal r.key r.start_version (cell_at st.cells r.key).lock) (commit_of (cell_at st.cells r.key).commits r.start_version) st r).1
last_after st (BatchRollback r) = (batch_rollback_stays (region_check st.regions r.context) (first_rollback_error st.cells r.start_version r.keys) st r).1
last_after st (PessimisticRollback r) = (pessimistic_rollback_stays (region_check st.regions r.context) st r).1
last_after st (PessimisticLock r) = (pessimistic_lock_stays (region_check st.regions r.context) (pessimistic_errors st.cells r) st r).1
last_after st (ResolveLock r) = (resolve_lock_stays (region_check st.regions r.context) st r).1
last_after st (ScanLock r) = (scan_lock_stays (region_check st.regions r.context) st r).1
last_after st (TxnHeartBeat r) = (txn_heart_beat_stays (region_check st.regions r.context) (lock_of_start r.start_version (cell_at st.cells r.primary_lock).lock) st r).1
last_after st (CheckTxnStatus r) = (check_txn_status_stays (region_check st.regions r.context) (finding r (cell_at st.cells r.primary_key)) st r).1
last_after st (CheckSecondaryLocks r) = (check_secondary_locks_stays (region_check st.regions r.context) st r).1
last_after st (UnsafeDestroyRange r) = refl
last_after st (GetRegion r) = refl
last_after st (GetRegionById r) = refl
last_after st (GetStore r) = refl
last_after st (GetAllStores r) = refl
last_after st (UpdateGcSafePoint r) = refl
last_after st (Members r) = refl
last_after st (Tso r) = refl

-- the first of m timestamps is at least the next one, and above it by less than m
first_bounds : (n m : ℕ) → 1 ≤ m → m ≤ 64 → (n ≤ first_from n m) × (first_from n m ≤ n + (m - 1))
first_bounds n m some few = by (nat_lt (n % 2 ^ 18 + (m - 1)) (2 ^ 18)) refl
  where
    by : (b : Bool) → nat_lt (n % 2 ^ 18 + (m - 1)) (2 ^ 18) ≡ b → (n ≤ (if b then n else (n / 2 ^ 18 + 1) * 2 ^ 18)) × ((if b then n else (n / 2 ^ 18 + 1) * 2 ^ 18) ≤ n + (m - 1))
    by true e = (omega arith, omega arith)
    by false e =
        let over : 2 ^ 18 ≤ n % 2 ^ 18 + (m - 1) = grind (arith, nat_tests) in
        (omega arith, omega (arith, over))

pub last_small : (last clock m : ℕ) → 1 ≤ m → m ≤ 64 → last_timestamp last clock m ≤ max (last + 1) (clock * 2 ^ 18) + 2 * (m - 1)
last_small last clock m some few = let h = (first_bounds (next_timestamp last clock) m some few).1 in omega (arith, h)

-- while the clock stands at 0, a request that can be served takes the last timestamp on by less than 128
pub last_at_zero : (st : Store) (r : Request) → CanServe st r → st.clock ≡ 0 → (table st r).store.last < st.last + 128
last_at_zero st (Tso r) can zero = let h = last_small st.last st.clock r.count can.some can.few in omega (arith, can.few, h)
last_at_zero st r can zero = let h = last_after st r in omega (arith, h)
