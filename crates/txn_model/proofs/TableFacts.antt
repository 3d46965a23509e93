-- Facts about one step of the table.
use Rattle.std.proofs.Common.{◌≡◌, ℕ, ◌+◌, ◌-◌, ◌*◌, ◌/◌, ◌%◌, ◌^◌, ◌<◌, ◌≤◌, max, nat_lt, ◌⊎◌, Bool, true, false, not, ◌&&◌, List, [], ◌∷◌, Option, Some, None, refl, sym, ap, ◌∙◌, subst, arith}
use Rattle.std.specs.Prelude.{if◌then◌else◌, is_some}
use Rattle.txn_kv.specs.declared.message.KeyError.{KeyError}
use Rattle.txn_kv.specs.declared.message.Action.TheVariants.{LockNotExistRollback, LockNotExistDoNothing}
use Rattle.txn_kv.specs.declared.message.KeyError.TheVariants.{TxnNotFound}
use Rattle.txn_kv.specs.declared.message.PbPair.{PbPair}
use Rattle.txn_kv.specs.declared.message.RegionErr.{RegionErr}
use Rattle.txn_kv.specs.declared.request.Request.{Request}
use Rattle.txn_kv.specs.declared.request.Request.TheVariants.{Get, BatchGet, Scan, Prewrite, Commit, Cleanup, BatchRollback, PessimisticRollback, PessimisticLock, ResolveLock, ScanLock, TxnHeartBeat, CheckTxnStatus, CheckSecondaryLocks, UnsafeDestroyRange, GetRegion, GetRegionById, GetStore, GetAllStores, UpdateGcSafePoint, Tso, Members}
use Rattle.txn_kv.specs.declared.request.reads.BatchGetRequest.{BatchGetRequest}
use Rattle.txn_kv.specs.declared.request.commits.BatchRollbackRequest.{BatchRollbackRequest}
use Rattle.txn_kv.specs.declared.request.locks.CheckSecondaryLocksRequest.{CheckSecondaryLocksRequest}
use Rattle.txn_kv.specs.declared.request.locks.CheckTxnStatusRequest.{CheckTxnStatusRequest}
use Rattle.txn_kv.specs.declared.request.locks.CleanupRequest.{CleanupRequest}
use Rattle.txn_kv.specs.declared.request.commits.CommitRequest.{CommitRequest}
use Rattle.txn_kv.specs.declared.request.reads.GetRequest.{GetRequest}
use Rattle.txn_kv.specs.declared.request.locks.PessimisticLockRequest.{PessimisticLockRequest}
use Rattle.txn_kv.specs.declared.request.locks.PessimisticRollbackRequest.{PessimisticRollbackRequest}
use Rattle.txn_kv.specs.declared.request.commits.PrewriteRequest.{PrewriteRequest}
use Rattle.txn_kv.specs.declared.request.locks.ResolveLockRequest.{ResolveLockRequest}
use Rattle.txn_kv.specs.declared.request.locks.ScanLockRequest.{ScanLockRequest}
use Rattle.txn_kv.specs.declared.request.reads.ScanRequest.{ScanRequest}
use Rattle.txn_kv.specs.declared.request.cluster.TsoRequest.{TsoRequest}
use Rattle.txn_kv.specs.declared.request.commits.TxnHeartBeatRequest.{TxnHeartBeatRequest}
use Rattle.txn_kv.specs.declared.reply.Reply.TheVariants as reply
use Rattle.txn_kv.specs.declared.reply.cluster.TsoResponse.{TsoResponse}
use Rattle.txn_kv.specs.declared.timestamp.Timestamp.{Timestamp}
use Rattle.txn_kv.specs.Timestamp.{version_of, timestamp_of}
use Rattle.txn_kv.specs.Versions.{version_of-timestamp_of}
use Rattle.txn_model.specs.declared.cell.Cell.{Cell}
use Rattle.txn_model.specs.declared.cell.Lock.{Lock}
use Rattle.txn_model.specs.declared.cell.Write.{Write}
use Rattle.txn_model.specs.Cells.{Key, has_key, cell_at, changed_at, AreKept}
use Rattle.txn_model.specs.Commit.{commit_by, first_commit_error}
use Rattle.txn_model.specs.Locks.{has_start, is_prewrite, owns, commit_of}
use Rattle.txn_model.specs.Orderly.{AreOrderly}
use Rattle.txn_model.specs.PessimisticLock.{pessimistic_lock_by, pessimistic_errors}
use Rattle.txn_model.specs.Placement.{region_check, next_timestamp, first_from, last_timestamp}
use Rattle.txn_model.specs.Prewrite.{prewrite_by, prewrite_errors, passed_commit, one_phase_by, locking_by}
use Rattle.txn_model.specs.Read.{read_at, read_pair, told_value, get_by, batch_get_by, scan_by}
use Rattle.txn_model.specs.Refusals.{region_error_in, refuses, read_timestamp}
use Rattle.txn_model.specs.Resolve.{resolve_lock_by, scan_lock_by}
use Rattle.txn_model.specs.Rollback.{batch_rollback_by, first_rollback_error, cleanup_refusal, cleanup_by, pessimistic_rollback_by}
use Rattle.txn_model.specs.Served.{last_by, last_after}
use Rattle.txn_model.specs.Settle.{lock_of_start, rolled_back}
use Rattle.txn_model.specs.Status.{Finding, finding, status_cell, status_reply, status_told, no_status, check_txn_status_by, check_secondary_locks_by, txn_heart_beat_by}
use Rattle.txn_model.specs.Status.Finding.{Mismatched, Expired, Live, IsCommitted, IsRolledBack, Nothing}
use Rattle.txn_model.specs.Steps.{PrewritesAt, LandsAt, CommitsAt, RollsBackAt, DestroysAt, commit_from, PrewriteLockBecomes, PessimisticLockBecomes}
use Rattle.txn_model.specs.Store.{Store, opening}
use Rattle.txn_model.specs.Table.{table}
use Rattle.txn_model.proofs.CellLists.{KeepsKeys, kept_changed, cell_changed, same_cells}
use Rattle.txn_model.proofs.KeptCells.{kept_after}
use Rattle.txn_model.proofs.StepFacts as facts
use Rattle.txn_model.proofs.StepRows.{row}
use Rattle.txn_model.proofs.Steps.{orderly_none, orderly_after}

pub opening_in_order : AreKept opening.cells × AreOrderly opening.cells
opening_in_order = (record { in_order = tt; none_empty = tt }, orderly_none)

pub orderly_served : (st : Store) (r : Request) → AreKept st.cells → AreOrderly st.cells → AreOrderly (table st r).store.cells
orderly_served st r kept orderly k = orderly_after st r k (cell_at st.cells k) (cell_at (table st r).store.cells k) (orderly k) (row st r kept.in_order k)

pub served_in_order : (st : Store) (r : Request) → AreKept st.cells → AreOrderly st.cells → AreKept (table st r).store.cells × AreOrderly (table st r).store.cells
served_in_order st r kept orderly = (kept_after st r kept, orderly_served st r kept orderly)

module _ (st : Store) (r : Request) (kept : AreKept st.cells) (orderly : AreOrderly st.cells) (k : Key) where
  pub commit_stays : (s : ℕ) (w : Write) → commit_of (cell_at st.cells k).commits s ≡ Some w → (commit_of (cell_at (table st r).store.cells k).commits s ≡ Some w) ⊎ DestroysAt r k
  commit_stays = facts.commit_stays st r k (cell_at st.cells k) (cell_at (table st r).store.cells k) (orderly k) (row st r kept.in_order k)

  pub rollback_stays : (s : ℕ) → has_start (cell_at st.cells k).rolled s ≡ true → (has_start (cell_at (table st r).store.cells k).rolled s ≡ true) ⊎ DestroysAt r k
  rollback_stays = facts.rollback_stays st r k (cell_at st.cells k) (cell_at (table st r).store.cells k) (orderly k) (row st r kept.in_order k)

  pub commit_comes : (s : ℕ) (w : Write) → commit_of (cell_at (table st r).store.cells k).commits s ≡ Some w → (commit_of (cell_at st.cells k).commits s ≡ Some w) ⊎ ((l : Lock) × ((cell_at st.cells k).lock ≡ Some l) × (is_prewrite l.kind ≡ true) × (w ≡ commit_from l w.commit) × (l.start ≡ s) × CommitsAt st r k s w.commit) ⊎ (LandsAt st r k s w.commit × (has_start (cell_at st.cells k).rolled s ≡ false) × (owns (cell_at st.cells k).lock s ≡ false) × (commit_of (cell_at st.cells k).commits s ≡ None))
  commit_comes = facts.commit_comes st r k (cell_at st.cells k) (cell_at (table st r).store.cells k) (orderly k) (row st r kept.in_order k)

  pub rollback_comes : (s : ℕ) → has_start (cell_at (table st r).store.cells k).rolled s ≡ true → (has_start (cell_at st.cells k).rolled s ≡ true) ⊎ RollsBackAt st r k s
  rollback_comes = facts.rollback_comes st r k (cell_at st.cells k) (cell_at (table st r).store.cells k) (orderly k) (row st r kept.in_order k)

  pub prewrite_comes : (s : ℕ) → owns (cell_at (table st r).store.cells k).lock s ≡ true → (owns (cell_at st.cells k).lock s ≡ true) ⊎ (PrewritesAt r k s × (has_start (cell_at st.cells k).rolled s ≡ false) × (commit_of (cell_at st.cells k).commits s ≡ None))
  prewrite_comes = facts.prewrite_comes st r k (cell_at st.cells k) (cell_at (table st r).store.cells k) (orderly k) (row st r kept.in_order k)

  pub prewrite_becomes : (l : Lock) → (cell_at st.cells k).lock ≡ Some l → is_prewrite l.kind ≡ true → PrewriteLockBecomes st r k l (cell_at (table st r).store.cells k)
  prewrite_becomes = facts.prewrite_becomes st r k (cell_at st.cells k) (cell_at (table st r).store.cells k) (orderly k) (row st r kept.in_order k)

  pub pessimistic_becomes : (l : Lock) → (cell_at st.cells k).lock ≡ Some l → is_prewrite l.kind ≡ false → PessimisticLockBecomes st r k l (cell_at (table st r).store.cells k)
  pessimistic_becomes = facts.pessimistic_becomes st r k (cell_at st.cells k) (cell_at (table st r).store.cells k) (orderly k) (row st r kept.in_order k)

  pub rolled_gets_nothing : (s : ℕ) → has_start (cell_at st.cells k).rolled s ≡ true → (owns (cell_at (table st r).store.cells k).lock s ≡ false) × (commit_of (cell_at st.cells k).commits s ≡ None → commit_of (cell_at (table st r).store.cells k).commits s ≡ None)
  rolled_gets_nothing = facts.rolled_gets_nothing st r k (cell_at st.cells k) (cell_at (table st r).store.cells k) (orderly k) (row st r kept.in_order k)

-- Numbers.

first_above : (n m : ℕ) → n ≤ first_from n m
first_above n m = by (nat_lt (n % 2 ^ 18 + (m - 1)) (2 ^ 18))
  where
    by : (b : Bool) → n ≤ (if b then n else (n / 2 ^ 18 + 1) * 2 ^ 18)
    by true = omega arith
    by false = omega arith

pub last_stays : (st : Store) (r : Request) → st.last ≤ (table st r).store.last
last_stays st r = subst (λ n. st.last ≤ n) (sym (last_after st r)) (by r)
  where
    by : (q : Request) → st.last ≤ last_by st q
    by (Tso q) = let h = first_above (next_timestamp st.last st.clock) q.count in omega (arith, h)
    by _ = omega arith

-- the timestamps that a Tso gives are above the last one, and no later than the new one
pub timestamps_rise : (st : Store) (r : TsoRequest) (o : TsoResponse) (t : Timestamp) (c : ℕ) → (table st (Tso r)).reply ≡ reply.Tso o → o.timestamp ≡ Some t → c ≤ version_of t → version_of t < c + o.count → (st.last < c) × (c ≤ (table st (Tso r)).store.last)
timestamps_rise st r o t c e f a b =
    let last = last_timestamp st.last st.clock r.count in
    let same : o ≡ record { count = r.count; timestamp = Some (timestamp_of last) } = cc in
    let here : Some t ≡ Some (timestamp_of last) = sym f ∙ ap (λ (x : TsoResponse). x.timestamp) same in
    let stamp : t ≡ timestamp_of last = cc in
    let number : version_of t ≡ last = ap version_of stamp ∙ version_of-timestamp_of last in
    let count : o.count ≡ r.count = ap (λ (x : TsoResponse). x.count) same in
    let low = first_above (next_timestamp st.last st.clock) r.count in
    (omega (arith, number, count, low, a, b), omega (arith, number, a))

-- Refusals.

-- a change that leaves each cell leaves them all
unchanged : (ks : List Key) (f : Cell → Cell) (cs : List Cell) → AreKept cs → ((c : Cell) → f c ≡ c) → changed_at ks f cs ≡ cs
unchanged ks f cs kept same =
    let keeps : KeepsKeys f = λ c. ap (λ x. x.key) (same c) in
    let after = kept_changed ks f keeps cs kept.in_order in
    same_cells (changed_at ks f cs) cs after.in_order after.none_empty kept.in_order kept.none_empty
    (λ j. cell_changed ks f keeps cs kept.in_order j ∙ by (has_key ks j) (cell_at cs j))
  where
    by : (b : Bool) (c : Cell) → (if b then f c else c) ≡ c
    by true c = same c
    by false c = refl

reads_nothing : (st : Store) → st ≡ read_at 0 st
reads_nothing st = let same : st.max_read ≡ max st.max_read 0 = omega arith in λ i. record st { max_read = same i }

cleanup_refused : (e : Option RegionErr) (o : Option KeyError) (w : Option Write) (st : Store) (r : CleanupRequest) → (refuses (cleanup_by e o w st r).reply ≡ true → (cleanup_by e o w st r).store ≡ read_at 0 st) × ((x : RegionErr) → region_error_in (cleanup_by e o w st r).reply ≡ Some x → (cleanup_by e o w st r).store ≡ st)
cleanup_refused (Some e) o w st r = (λ h. reads_nothing st, λ x h. refl)
cleanup_refused None (Some o) w st r = (λ h. reads_nothing st, λ x h. refl)
cleanup_refused None None (Some w) st r = (λ h. reads_nothing st, λ x h. refl)
cleanup_refused None None None st r = (λ h. absurd (cc), λ x h. absurd (cc))

commit_refusal : (e : Option RegionErr) (o : Option KeyError) (st : Store) (r : CommitRequest) → (refuses (commit_by e o st r).reply ≡ true → (commit_by e o st r).store ≡ read_at 0 st) × ((x : RegionErr) → region_error_in (commit_by e o st r).reply ≡ Some x → (commit_by e o st r).store ≡ st)
commit_refusal (Some e) o st r = (λ h. reads_nothing st, λ x h. refl)
commit_refusal None (Some o) st r = (λ h. reads_nothing st, λ x h. refl)
commit_refusal None None st r = (λ h. absurd (cc), λ x h. absurd (cc))

batch_rollback_refusal : (e : Option RegionErr) (o : Option KeyError) (st : Store) (r : BatchRollbackRequest) → (refuses (batch_rollback_by e o st r).reply ≡ true → (batch_rollback_by e o st r).store ≡ read_at 0 st) × ((x : RegionErr) → region_error_in (batch_rollback_by e o st r).reply ≡ Some x → (batch_rollback_by e o st r).store ≡ st)
batch_rollback_refusal (Some e) o st r = (λ h. reads_nothing st, λ x h. refl)
batch_rollback_refusal None (Some o) st r = (λ h. reads_nothing st, λ x h. refl)
batch_rollback_refusal None None st r = (λ h. absurd (cc), λ x h. absurd (cc))

prewrite_refusal : (e : Option RegionErr) (es : List KeyError) (w : Option Write) (st : Store) (r : PrewriteRequest) → (refuses (prewrite_by e es w st r).reply ≡ true → (prewrite_by e es w st r).store ≡ read_at 0 st) × ((x : RegionErr) → region_error_in (prewrite_by e es w st r).reply ≡ Some x → (prewrite_by e es w st r).store ≡ st)
prewrite_refusal (Some e) es w st r = (λ h. reads_nothing st, λ x h. refl)
prewrite_refusal None (y ∷ ys) w st r = (λ h. reads_nothing st, λ x h. refl)
prewrite_refusal None [] w st r = (λ h. absurd (none r.try_one_pc w h), λ x h. absurd (nowhere x r.try_one_pc w h))
  where
    none : (b : Bool) (v : Option Write) → refuses (if b then one_phase_by v st r else locking_by st r).reply ≡ true → ⊥
    none true (Some v) h = cc
    none true None h = cc
    none false v h = cc

    nowhere : (x : RegionErr) (b : Bool) (v : Option Write) → region_error_in (if b then one_phase_by v st r else locking_by st r).reply ≡ Some x → ⊥
    nowhere x true (Some v) h = cc
    nowhere x true None h = cc
    nowhere x false v h = cc

pessimistic_lock_refusal : (e : Option RegionErr) (es : List KeyError) (st : Store) (r : PessimisticLockRequest) → (refuses (pessimistic_lock_by e es st r).reply ≡ true → (pessimistic_lock_by e es st r).store ≡ read_at r.for_update_ts st) × ((x : RegionErr) → region_error_in (pessimistic_lock_by e es st r).reply ≡ Some x → (pessimistic_lock_by e es st r).store ≡ st)
pessimistic_lock_refusal (Some e) es st r = (λ h. absurd (cc), λ x h. refl)
pessimistic_lock_refusal None (y ∷ ys) st r = (λ h. refl, λ x h. absurd (cc))
pessimistic_lock_refusal None [] st r = (λ h. absurd (cc), λ x h. absurd (cc))

get_refusal : (e : Option RegionErr) (st : Store) (r : GetRequest) → (refuses (get_by e st r).reply ≡ true → (get_by e st r).store ≡ read_at r.version st) × ((x : RegionErr) → region_error_in (get_by e st r).reply ≡ Some x → (get_by e st r).store ≡ st)
get_refusal (Some e) st r = (λ h. absurd (cc), λ x h. refl)
get_refusal None st r = (λ h. refl, λ x h. absurd (told (read_pair r.version (cell_at st.cells r.key)) h))
  where
    told : {x : RegionErr} (o : Option PbPair) → (told_value o).region_error ≡ Some x → ⊥
    told None h = cc
    told (Some p) h = cc

batch_get_refusal : (e : Option RegionErr) (st : Store) (r : BatchGetRequest) → (refuses (batch_get_by e st r).reply ≡ true → (batch_get_by e st r).store ≡ read_at r.version st) × ((x : RegionErr) → region_error_in (batch_get_by e st r).reply ≡ Some x → (batch_get_by e st r).store ≡ st)
batch_get_refusal (Some e) st r = (λ h. absurd (cc), λ x h. refl)
batch_get_refusal None st r = (λ h. refl, λ x h. absurd (cc))

scan_refusal : (e : Option RegionErr) (st : Store) (r : ScanRequest) → (refuses (scan_by e st r).reply ≡ true → (scan_by e st r).store ≡ read_at r.version st) × ((x : RegionErr) → region_error_in (scan_by e st r).reply ≡ Some x → (scan_by e st r).store ≡ st)
scan_refusal (Some e) st r = (λ h. absurd (cc), λ x h. refl)
scan_refusal None st r = (λ h. refl, λ x h. absurd (cc))

scan_lock_refusal : (e : Option RegionErr) (st : Store) (r : ScanLockRequest) → (refuses (scan_lock_by e st r).reply ≡ true → (scan_lock_by e st r).store ≡ read_at 0 st) × ((x : RegionErr) → region_error_in (scan_lock_by e st r).reply ≡ Some x → (scan_lock_by e st r).store ≡ st)
scan_lock_refusal (Some e) st r = (λ h. reads_nothing st, λ x h. refl)
scan_lock_refusal None st r = (λ h. reads_nothing st, λ x h. refl)

pessimistic_rollback_refusal : (e : Option RegionErr) (st : Store) (r : PessimisticRollbackRequest) → (refuses (pessimistic_rollback_by e st r).reply ≡ true → (pessimistic_rollback_by e st r).store ≡ read_at 0 st) × ((x : RegionErr) → region_error_in (pessimistic_rollback_by e st r).reply ≡ Some x → (pessimistic_rollback_by e st r).store ≡ st)
pessimistic_rollback_refusal (Some e) st r = (λ h. reads_nothing st, λ x h. refl)
pessimistic_rollback_refusal None st r = (λ h. absurd (cc), λ x h. absurd (cc))

resolve_lock_refusal : (e : Option RegionErr) (st : Store) (r : ResolveLockRequest) → (refuses (resolve_lock_by e st r).reply ≡ true → (resolve_lock_by e st r).store ≡ read_at 0 st) × ((x : RegionErr) → region_error_in (resolve_lock_by e st r).reply ≡ Some x → (resolve_lock_by e st r).store ≡ st)
resolve_lock_refusal (Some e) st r = (λ h. reads_nothing st, λ x h. refl)
resolve_lock_refusal None st r = (λ h. absurd (cc), λ x h. absurd (cc))

heart_beat_refusal : (e : Option RegionErr) (l : Option Lock) (st : Store) (r : TxnHeartBeatRequest) → (refuses (txn_heart_beat_by e l st r).reply ≡ true → (txn_heart_beat_by e l st r).store ≡ read_at 0 st) × ((x : RegionErr) → region_error_in (txn_heart_beat_by e l st r).reply ≡ Some x → (txn_heart_beat_by e l st r).store ≡ st)
heart_beat_refusal (Some e) l st r = (λ h. reads_nothing st, λ x h. refl)
heart_beat_refusal None None st r = (λ h. reads_nothing st, λ x h. refl)
heart_beat_refusal None (Some l) st r = (λ h. absurd (cc), λ x h. absurd (cc))

secondary_refusal : (e : Option RegionErr) (st : Store) (r : CheckSecondaryLocksRequest) → (refuses (check_secondary_locks_by e st r).reply ≡ true → (check_secondary_locks_by e st r).store ≡ read_at 0 st) × ((x : RegionErr) → region_error_in (check_secondary_locks_by e st r).reply ≡ Some x → (check_secondary_locks_by e st r).store ≡ st)
secondary_refusal (Some e) st r = (λ h. reads_nothing st, λ x h. refl)
secondary_refusal None st r = (λ h. absurd (cc), λ x h. absurd (cc))

-- a check that is refused leaves its cell
status_leaves : (r : CheckTxnStatusRequest) (f : Finding) → is_some (status_reply r f).error ≡ true → (c : Cell) → status_cell r f c ≡ c
status_leaves r (Mismatched l) h c = refl
status_leaves r (Expired l) h c = absurd (cc)
status_leaves r (Live l) h c = refl
status_leaves r (IsCommitted w) h c = refl
status_leaves r IsRolledBack h c = refl
status_leaves r Nothing h c = by r.resolving_pessimistic_lock r.rollback_if_not_exist h
  where
    by : (a b : Bool) → is_some (if a then status_told 0 0 LockNotExistDoNothing None else (if b then status_told 0 0 LockNotExistRollback None else record no_status { error = Some (TxnNotFound r.primary_key r.lock_ts) })).error ≡ true → (if b && not a then rolled_back r.lock_ts c else c) ≡ c
    by true b g = absurd (cc)
    by false true g = absurd (cc)
    by false false g = refl

-- and answers no region error
status_no_region : (r : CheckTxnStatusRequest) (f : Finding) (x : RegionErr) → (status_reply r f).region_error ≡ Some x → ⊥
status_no_region r (Mismatched l) x h = cc
status_no_region r (Expired l) x h = cc
status_no_region r (Live l) x h = cc
status_no_region r (IsCommitted w) x h = cc
status_no_region r IsRolledBack x h = cc
status_no_region r Nothing x h = by r.resolving_pessimistic_lock r.rollback_if_not_exist h
  where
    by : (a b : Bool) → (if a then status_told 0 0 LockNotExistDoNothing None else (if b then status_told 0 0 LockNotExistRollback None else record no_status { error = Some (TxnNotFound r.primary_key r.lock_ts) })).region_error ≡ Some x → ⊥
    by true b g = cc
    by false true g = cc
    by false false g = cc

status_refusal : (e : Option RegionErr) (f : Finding) (st : Store) (r : CheckTxnStatusRequest) → AreKept st.cells → (refuses (check_txn_status_by e f st r).reply ≡ true → (check_txn_status_by e f st r).store ≡ read_at 0 st) × ((x : RegionErr) → region_error_in (check_txn_status_by e f st r).reply ≡ Some x → (check_txn_status_by e f st r).store ≡ st)
status_refusal (Some e) f st r kept = (λ h. reads_nothing st, λ x h. refl)
status_refusal None f st r kept = (λ h. ap (λ cs. record st { cells = cs }) (unchanged (r.primary_key ∷ []) (status_cell r f) st.cells kept (status_leaves r f h)) ∙ reads_nothing st, λ x h. absurd (status_no_region r f x h))

refusal : (st : Store) (r : Request) → AreKept st.cells → (refuses (table st r).reply ≡ true → (table st r).store ≡ read_at (read_timestamp r) st) × ((x : RegionErr) → region_error_in (table st r).reply ≡ Some x → (table st r).store ≡ st)
refusal st (Get r) kept = get_refusal (region_check st.regions r.context) st r
refusal st (BatchGet r) kept = batch_get_refusal (region_check st.regions r.context) st r
refusal st (Scan r) kept = scan_refusal (region_check st.regions r.context) st r
refusal st (Prewrite r) kept = prewrite_refusal (region_check st.regions r.context) (prewrite_errors st.cells r r.mutations r.is_pessimistic_lock) (passed_commit st.cells r.start_version r.mutations) st r
refusal st (Commit r) kept = commit_refusal (region_check st.regions r.context) (first_commit_error st.cells r r.keys) st r
refusal st (Cleanup r) kept = cleanup_refused (region_check st.regions r.context) (cleanup_refusal r.key r.start_version (cell_at st.cells r.key).lock) (commit_of (cell_at st.cells r.key).commits r.start_version) st r
refusal st (BatchRollback r) kept = batch_rollback_refusal (region_check st.regions r.context) (first_rollback_error st.cells r.start_version r.keys) st r
refusal st (PessimisticRollback r) kept = pessimistic_rollback_refusal (region_check st.regions r.context) st r
refusal st (PessimisticLock r) kept = pessimistic_lock_refusal (region_check st.regions r.context) (pessimistic_errors st.cells r) st r
refusal st (ResolveLock r) kept = resolve_lock_refusal (region_check st.regions r.context) st r
refusal st (ScanLock r) kept = scan_lock_refusal (region_check st.regions r.context) st r
refusal st (TxnHeartBeat r) kept = heart_beat_refusal (region_check st.regions r.context) (lock_of_start r.start_version (cell_at st.cells r.primary_lock).lock) st r
refusal st (CheckTxnStatus r) kept = status_refusal (region_check st.regions r.context) (finding r (cell_at st.cells r.primary_key)) st r kept
refusal st (CheckSecondaryLocks r) kept = secondary_refusal (region_check st.regions r.context) st r
refusal st (UnsafeDestroyRange r) kept = (λ h. absurd (cc), λ x h. absurd (cc))
refusal st (GetRegion r) kept = (λ h. absurd (cc), λ x h. absurd (cc))
refusal st (GetRegionById r) kept = (λ h. absurd (cc), λ x h. absurd (cc))
refusal st (GetStore r) kept = (λ h. absurd (cc), λ x h. absurd (cc))
refusal st (GetAllStores r) kept = (λ h. absurd (cc), λ x h. absurd (cc))
refusal st (UpdateGcSafePoint r) kept = (λ h. absurd (cc), λ x h. absurd (cc))
refusal st (Tso r) kept = (λ h. absurd (cc), λ x h. absurd (cc))
refusal st (Members r) kept = (λ h. absurd (cc), λ x h. absurd (cc))

pub region_error_leaves : (st : Store) (r : Request) → AreKept st.cells → (x : RegionErr) → region_error_in (table st r).reply ≡ Some x → (table st r).store ≡ st
region_error_leaves st r kept = (refusal st r kept).1

pub refusal_leaves : (st : Store) (r : Request) → AreKept st.cells → refuses (table st r).reply ≡ true → (table st r).store ≡ read_at (read_timestamp r) st
refusal_leaves st r kept = (refusal st r kept).0
