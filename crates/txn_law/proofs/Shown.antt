-- A lock that a reply shows stood in the store that gave it.
use Rattle.std.proofs.Common.{◌≡◌, ℕ, ◌-◌, ◌^◌, inl, inr, Bool, true, false, ◌&&◌, List, [], ◌∷◌, Option, Some, None, nat_eq, nat_lt, nat_le, refl, sym, ap, ◌∙◌, subst}
use Rattle.std.specs.Prelude.{if◌then◌else◌, is_some, take, reverse, drop}
use Rattle.std.specs.List.{filter_map}
use Rattle.txn_kv.specs.declared.message.KeyError.{KeyError}
use Rattle.txn_kv.specs.declared.message.LockInfo.{LockInfo}
use Rattle.txn_kv.specs.declared.message.Mutation.{Mutation}
use Rattle.txn_kv.specs.declared.message.PbPair.{PbPair}
use Rattle.txn_kv.specs.declared.message.RegionErr.{RegionErr}
use Rattle.txn_kv.specs.declared.request.Request.{Request}
use Rattle.txn_kv.specs.declared.request.Request.TheVariants.{Get, BatchGet, Scan, Prewrite, Commit, Cleanup, BatchRollback, PessimisticRollback, PessimisticLock, ResolveLock, ScanLock, TxnHeartBeat, CheckTxnStatus, CheckSecondaryLocks, UnsafeDestroyRange, GetRegion, GetRegionById, GetStore, GetAllStores, UpdateGcSafePoint, Tso, Members}
use Rattle.txn_kv.specs.declared.request.reads.GetRequest.{GetRequest}
use Rattle.txn_kv.specs.declared.request.reads.BatchGetRequest.{BatchGetRequest}
use Rattle.txn_kv.specs.declared.request.commits.BatchRollbackRequest.{BatchRollbackRequest}
use Rattle.txn_kv.specs.declared.request.reads.ScanRequest.{ScanRequest}
use Rattle.txn_kv.specs.declared.request.locks.ScanLockRequest.{ScanLockRequest}
use Rattle.txn_kv.specs.declared.request.locks.CleanupRequest.{CleanupRequest}
use Rattle.txn_kv.specs.declared.request.commits.CommitRequest.{CommitRequest}
use Rattle.txn_kv.specs.declared.request.locks.CheckTxnStatusRequest.{CheckTxnStatusRequest}
use Rattle.txn_kv.specs.declared.request.locks.CheckSecondaryLocksRequest.{CheckSecondaryLocksRequest}
use Rattle.txn_kv.specs.declared.request.locks.PessimisticLockRequest.{PessimisticLockRequest}
use Rattle.txn_kv.specs.declared.request.locks.PessimisticRollbackRequest.{PessimisticRollbackRequest}
use Rattle.txn_kv.specs.declared.request.commits.PrewriteRequest.{PrewriteRequest}
use Rattle.txn_kv.specs.declared.request.locks.ResolveLockRequest.{ResolveLockRequest}
use Rattle.txn_kv.specs.declared.request.commits.TxnHeartBeatRequest.{TxnHeartBeatRequest}
use Rattle.txn_history.specs.Among.{IsAmong}
use Rattle.txn_history.specs.Licence.{ErrorShows, ShowsLock}
use Rattle.txn_history.specs.Plan.{Key}
use Rattle.txn_model.specs.declared.cell.Cell.{Cell}
use Rattle.txn_model.specs.declared.cell.Lock.{Lock}
use Rattle.txn_model.specs.declared.cell.Write.{Write}
use Rattle.txn_model.specs.Cells.{key_eq, cell_at, AreInOrder}
use Rattle.txn_model.specs.Commit.{commit_by, first_commit_error, commit_error, commit_conflict, uncommitted}
use Rattle.txn_model.specs.Locks.{has_start, is_prewrite, is_written, commit_of, newest_commit, value_at, lock_info, is_async_lock, or_earlier}
use Rattle.txn_model.specs.Placement.{region_check}
use Rattle.txn_model.specs.Prewrite.{first_flag, wants_absent, passes_commit, prewrite_error, lock_conflict, conflict, prewrite_errors, prewrite_by, one_phase_by, locking_by, passed_commit}
use Rattle.txn_model.specs.Rollback.{cleanup_refusal, cleanup_by, batch_rollback_by, first_rollback_error, rollback_error, committed_error, pessimistic_rollback_by}
use Rattle.txn_model.specs.Status.{finding, Finding, status_told, no_status, check_txn_status_by, shown_lock, check_secondary_locks_by, txn_heart_beat_by}
use Rattle.txn_model.proofs.CellLists.{key_of_cell}
use Rattle.txn_model.specs.Ranges.{in_range, cells_in}
use Rattle.txn_model.specs.PessimisticLock.{asserts_absence, value_for_update, newest_conflict, held_conflict, pessimistic_error, pessimistic_errors, pessimistic_lock_by}
use Rattle.txn_model.specs.Read.{lock_before, pair_of_value, pair_of, read_pair, told_value, get_by, batch_get_by, scanned_cells, without_value, scan_by}
use Rattle.txn_model.specs.Resolve.{lock_until, locks_until, scan_lock_by, resolve_lock_by}
use Rattle.txn_model.specs.Settle.{own_prewrite_lock, lock_of_start}
use Rattle.txn_model.specs.Status.Finding.{Mismatched, Expired, Live, IsCommitted, IsRolledBack, Nothing}
use Rattle.txn_model.specs.Store.{Store}
use Rattle.txn_model.specs.Table.{table}
use Rattle.txn_law.specs.Run.{IsCovered}
use Rattle.txn_law.proofs.Among.{among_map, among_filter_map, among_filter, among_take, among_reverse, among_option, cell_among}
use Rattle.txn_law.proofs.Rows.{FindsIn, finds}
use Rattle.txn_kv.specs.declared.message.KeyError.TheVariants as errors
use Rattle.txn_kv.specs.declared.message.Action.TheVariants as actions
use Rattle.txn_kv.specs.declared.reply.Reply.TheVariants as reply

-- the lock stands at a key of these cells
pub record Stood (cs : List Cell) (l : LockInfo) : Type 0 where
  pub at : Key
  pub key : Key
  pub lock : Lock
  pub here : (cell_at cs at).lock ≡ Some lock
  pub shown : lock_info key lock ≡ l
  pub same : key ≡ at

-- reads

pair_shows : (t : ℕ) (c : Cell) (p : PbPair) (l : LockInfo) → read_pair t c ≡ Some p → ErrorShows p.error l → (m : Lock) × (c.lock ≡ Some m) × (lock_info c.key m ≡ l)
pair_shows t c p l e h = by_lock c.lock refl e
  where
    by_value : (o : Option (List ℕ)) → pair_of_value c.key o ≡ Some p → ⊥
    by_value None g = absurd (cc)
    by_value (Some v) g = let f : p.error ≡ None = ap (λ o. elim o [ None ↦ None | Some q ↦ q.error ]) (sym g) in subst (λ o. ErrorShows o l) f h

    by_test : (m : Lock) → c.lock ≡ Some m → (b : Bool) → pair_of c t (if b then Some m else None) ≡ Some p → (n : Lock) × (c.lock ≡ Some n) × (lock_info c.key n ≡ l)
    by_test m d true g = (m, d, (let f : p.error ≡ Some (errors.Locked (lock_info c.key m)) = ap (λ o. elim o [ None ↦ None | Some q ↦ q.error ]) (sym g) in subst (λ o. ErrorShows o l) f h))
    by_test m d false g = absurd (by_value (value_at c.commits t) g)

    by_lock : (o : Option Lock) → c.lock ≡ o → pair_of c t (lock_before t o) ≡ Some p → (m : Lock) × (c.lock ≡ Some m) × (lock_info c.key m ≡ l)
    by_lock None d g = absurd (by_value (value_at c.commits t) g)
    by_lock (Some m) d g = by_test m d (is_written m.kind && nat_le m.start t) g

pair_stood : (cs : List Cell) (k : Key) (t : ℕ) (p : PbPair) (l : LockInfo) → read_pair t (cell_at cs k) ≡ Some p → ErrorShows p.error l → Stood cs l
pair_stood cs k t p l e h = let w = pair_shows t (cell_at cs k) p l e h in record { at = k; key = (cell_at cs k).key; lock = w.0; here = w.1; shown = w.2; same = key_of_cell cs k }

get_shows : (e : Option RegionErr) (st : Store) (r : GetRequest) (l : LockInfo) → ShowsLock (get_by e st r).reply l → Stood st.cells l
get_shows (Some e) st r l h = absurd h
get_shows None st r l h = by (read_pair r.version (cell_at st.cells r.key)) refl h
  where
    by : (o : Option PbPair) → read_pair r.version (cell_at st.cells r.key) ≡ o → ErrorShows (told_value o).error l → Stood st.cells l
    by None d g = absurd g
    by (Some p) d g = pair_stood st.cells r.key r.version p l d g

batch_get_shows : (e : Option RegionErr) (st : Store) (r : BatchGetRequest) (l : LockInfo) → ShowsLock (batch_get_by e st r).reply l → Stood st.cells l
batch_get_shows (Some e) st r l h = absurd h.1
batch_get_shows None st r l h =
    let w = among_filter_map (λ (k : Key). read_pair r.version (cell_at st.cells k)) r.keys h.0 h.1 in
    pair_stood st.cells w.0 r.version h.0 l w.2 h.2

pub among_scanned : (r : ScanRequest) (cs : List Cell) (c : Cell) → IsAmong (scanned_cells r cs) c → IsAmong cs c
among_scanned r cs c h = by r.reverse h
  where
    by : (b : Bool) → IsAmong (if b then reverse (cells_in r.end_key r.start_key cs) else cells_in r.start_key r.end_key cs) c → IsAmong cs c
    by true g = among_filter (λ (d : Cell). in_range r.end_key r.start_key d.key) cs c (among_reverse (cells_in r.end_key r.start_key cs) c g)
    by false g = among_filter (λ (d : Cell). in_range r.start_key r.end_key d.key) cs c g

pub error_stays : (b : Bool) (p : PbPair) → (if b then without_value p else p).error ≡ p.error
error_stays true p = refl
error_stays false p = refl

scan_shows : (e : Option RegionErr) (st : Store) (r : ScanRequest) (l : LockInfo) → AreInOrder st.cells → ShowsLock (scan_by e st r).reply l → Stood st.cells l
scan_shows (Some e) st r l o h = absurd h.1
scan_shows None st r l o h =
    let found = filter_map (read_pair r.version) (scanned_cells r st.cells) in
    let v = among_map (λ (p : PbPair). if r.key_only then without_value p else p) (take r.limit found) h.0 h.1 in
    let w = among_filter_map (read_pair r.version) (scanned_cells r st.cells) v.0 (among_take r.limit found v.0 v.1) in
    let same = cell_among st.cells w.0 o (among_scanned r st.cells w.0 w.1) in
    let told : ErrorShows v.0.error l = subst (λ z. ErrorShows z l) (sym (ap (λ (q : PbPair). q.error) v.2) ∙ error_stays r.key_only v.0) h.2 in
    pair_stood st.cells w.0.key r.version v.0 l (ap (read_pair r.version) same ∙ w.2) told

-- Prewrite

other_conflicts : (r : PrewriteRequest) (m : Mutation) (flag own : Bool) (ws : List Write) (l : LockInfo) → ErrorShows (conflict r m flag own ws) l → ⊥
other_conflicts r m flag own ws l h = by_commit (commit_of ws r.start_version) refl h
  where
    by_newest : (a b : Bool) → ErrorShows (if a then Some (errors.WriteConflict m.key r.start_version (newest_commit ws)) else (if b then Some (errors.AlreadyExist m.key) else None)) l → ⊥
    by_newest true b g = g
    by_newest false true g = g
    by_newest false false g = g

    by_flag : (f o : Bool) → ErrorShows (if f then (if o then None else Some (errors.PessimisticLockNotFound m.key)) else (if nat_lt r.start_version (newest_commit ws) then Some (errors.WriteConflict m.key r.start_version (newest_commit ws)) else (if wants_absent m.op && is_some (value_at ws (2 ^ 64 - 1)) then Some (errors.AlreadyExist m.key) else None))) l → ⊥
    by_flag true true g = g
    by_flag true false g = g
    by_flag false o g = by_newest (nat_lt r.start_version (newest_commit ws)) (wants_absent m.op && is_some (value_at ws (2 ^ 64 - 1))) g

    by_commit : (o : Option Write) → commit_of ws r.start_version ≡ o → ErrorShows (conflict r m flag own ws) l → ⊥
    by_commit (Some w) e g = by_passed (passes_commit r) (rw e at g)
      where
        by_passed : (b : Bool) → ErrorShows (if b then None else Some (errors.WriteConflict m.key r.start_version w.commit)) l → ⊥
        by_passed true z = z
        by_passed false z = z
    by_commit None e g = by_flag flag own (rw e at g)

mutation_shows : (cs : List Cell) (r : PrewriteRequest) (m : Mutation) (flag : Bool) (l : LockInfo) → ErrorShows (prewrite_error r m flag (cell_at cs m.key)) l → Stood cs l
mutation_shows cs r m flag l h = by_rolled (has_start (cell_at cs m.key).rolled r.start_version) h
  where
    by_own : (n : Lock) → (cell_at cs m.key).lock ≡ Some n → (a b : Bool) → ErrorShows (if a then (if b then (if r.try_one_pc then Some (errors.Abort m.key r.start_version 0) else None) else conflict r m flag true (cell_at cs m.key).commits) else Some (errors.Locked (lock_info m.key n))) l → Stood cs l
    by_own n e true true g = absurd (by_once r.try_one_pc g)
      where
        by_once : (b : Bool) → ErrorShows (if b then Some (errors.Abort m.key r.start_version 0) else None) l → ⊥
        by_once true z = z
        by_once false z = z
    by_own n e true false g = absurd (other_conflicts r m flag true (cell_at cs m.key).commits l g)
    by_own n e false b g = record { at = m.key; key = m.key; lock = n; here = e; shown = g; same = refl }

    by_lock : (o : Option Lock) → (cell_at cs m.key).lock ≡ o → ErrorShows (lock_conflict r m flag (cell_at cs m.key).commits o) l → Stood cs l
    by_lock None e g = absurd (other_conflicts r m flag false (cell_at cs m.key).commits l g)
    by_lock (Some n) e g = by_own n e (nat_eq n.start r.start_version) (is_prewrite n.kind) g

    by_rolled : (b : Bool) → ErrorShows (if b then Some (errors.Abort m.key r.start_version 0) else lock_conflict r m flag (cell_at cs m.key).commits (cell_at cs m.key).lock) l → Stood cs l
    by_rolled true g = absurd g
    by_rolled false g = by_lock (cell_at cs m.key).lock refl g

errors_show : (cs : List Cell) (r : PrewriteRequest) (ms : List Mutation) (fs : List Bool) (x : KeyError) (l : LockInfo) → IsAmong (prewrite_errors cs r ms fs) x → ErrorShows (Some x) l → Stood cs l
errors_show cs r [] fs x l a h = absurd a
errors_show cs r (m ∷ ms) fs x l a h = elim (among_option (prewrite_error r m (first_flag fs) (cell_at cs m.key)) (prewrite_errors cs r ms (drop 1 fs)) x a) [
  | inl e ↦ mutation_shows cs r m (first_flag fs) l (subst (λ o. ErrorShows o l) (sym e) h)
  | inr b ↦ errors_show cs r ms (drop 1 fs) x l b h
]

prewrite_shows : (e : Option RegionErr) (es : List KeyError) (w : Option Write) (st : Store) (r : PrewriteRequest) (l : LockInfo) → prewrite_errors st.cells r r.mutations r.is_pessimistic_lock ≡ es → ShowsLock (prewrite_by e es w st r).reply l → Stood st.cells l
prewrite_shows (Some e) es w st r l d h = absurd h.1
prewrite_shows None [] w st r l d h = absurd (by r.try_one_pc w h)
  where
    by : (b : Bool) (v : Option Write) → ShowsLock (if b then one_phase_by v st r else locking_by st r).reply l → ⊥
    by true None g = g.1
    by true (Some v) g = g.1
    by false v g = g.1
prewrite_shows None (x ∷ xs) w st r l d h = errors_show st.cells r r.mutations r.is_pessimistic_lock h.0 l (subst (λ o. IsAmong o h.0) (sym d) h.1) h.2

-- PessimisticLock

no_newest : (r : PessimisticLockRequest) (m : Mutation) (c : Cell) (l : LockInfo) → ErrorShows (newest_conflict r m c) l → ⊥
no_newest r m c l h = by (nat_lt r.for_update_ts (newest_commit c.commits)) (asserts_absence m.assertion && is_some (value_for_update r c)) h
  where
    by : (a b : Bool) → ErrorShows (if a then Some (errors.WriteConflict m.key r.start_version (newest_commit c.commits)) else (if b then Some (errors.AlreadyExist m.key) else None)) l → ⊥
    by true b g = g
    by false true g = g
    by false false g = g

tried_shows : (cs : List Cell) (r : PessimisticLockRequest) (m : Mutation) (l : LockInfo) → ErrorShows (pessimistic_error r m (cell_at cs m.key)) l → Stood cs l
tried_shows cs r m l h = by_rolled (has_start (cell_at cs m.key).rolled r.start_version) h
  where
    by_own : (n : Lock) → (cell_at cs m.key).lock ≡ Some n → (a b : Bool) → ErrorShows (if a then (if b then Some (errors.Abort m.key r.start_version 0) else newest_conflict r m (cell_at cs m.key)) else Some (errors.Locked (lock_info m.key n))) l → Stood cs l
    by_own n e true true g = absurd g
    by_own n e true false g = absurd (no_newest r m (cell_at cs m.key) l g)
    by_own n e false b g = record { at = m.key; key = m.key; lock = n; here = e; shown = g; same = refl }

    by_lock : (o : Option Lock) → (cell_at cs m.key).lock ≡ o → ErrorShows (held_conflict r m (cell_at cs m.key) o) l → Stood cs l
    by_lock None e g = absurd (no_newest r m (cell_at cs m.key) l g)
    by_lock (Some n) e g = by_own n e (nat_eq n.start r.start_version) (is_prewrite n.kind) g

    by_rolled : (b : Bool) → ErrorShows (if b then Some (errors.Abort m.key r.start_version 0) else held_conflict r m (cell_at cs m.key) (cell_at cs m.key).lock) l → Stood cs l
    by_rolled true g = absurd g
    by_rolled false g = by_lock (cell_at cs m.key).lock refl g

pessimistic_lock_shows : (e : Option RegionErr) (es : List KeyError) (st : Store) (r : PessimisticLockRequest) (l : LockInfo) → pessimistic_errors st.cells r ≡ es → ShowsLock (pessimistic_lock_by e es st r).reply l → Stood st.cells l
pessimistic_lock_shows (Some e) es st r l d h = absurd h.1
pessimistic_lock_shows None [] st r l d h = absurd h.1
pessimistic_lock_shows None (x ∷ xs) st r l d h =
    let w = among_filter_map (λ (m : Mutation). pessimistic_error r m (cell_at st.cells m.key)) r.mutations h.0 (subst (λ o. IsAmong o h.0) (sym d) h.1) in
    tried_shows st.cells r w.0 l (subst (λ o. ErrorShows o l) (sym w.2) h.2)

-- the others

commit_error_hides : (r : CommitRequest) (k : Key) (c : Cell) (l : LockInfo) → ErrorShows (commit_error r k c) l → ⊥
commit_error_hides r k c l h = by_lock c.lock h
  where
    by_commit : (b : Bool) → ErrorShows (if b then None else Some (errors.TxnLockNotFound k)) l → ⊥
    by_commit true g = g
    by_commit false g = g

    by_own : (m : Lock) (a b : Bool) → ErrorShows (if a then (if b then Some (errors.CommitTsExpired k m.min_commit) else None) else uncommitted r k c) l → ⊥
    by_own m true true g = g
    by_own m true false g = g
    by_own m false b g = by_commit (is_some (commit_of c.commits r.start_version)) g

    by_lock : (o : Option Lock) → ErrorShows (commit_conflict r k c o) l → ⊥
    by_lock None g = by_commit (is_some (commit_of c.commits r.start_version)) g
    by_lock (Some m) g = by_own m (nat_eq m.start r.start_version && is_prewrite m.kind) (nat_lt r.commit_version m.min_commit) g

-- the first of two errors shows what one of them shows
first_hides : (x y : Option KeyError) (l : LockInfo) → (ErrorShows x l → ⊥) → (ErrorShows y l → ⊥) → ErrorShows (or_earlier x y) l → ⊥
first_hides None y l f g h = g h
first_hides (Some x) y l f g h = f h

first_commit_hides : (cs : List Cell) (r : CommitRequest) (ks : List Key) (l : LockInfo) → ErrorShows (first_commit_error cs r ks) l → ⊥
first_commit_hides cs r [] l h = h
first_commit_hides cs r (k ∷ ks) l h = first_hides (commit_error r k (cell_at cs k)) (first_commit_error cs r ks) l (commit_error_hides r k (cell_at cs k) l) (first_commit_hides cs r ks l) h

commit_shows : (e : Option RegionErr) (x : Option KeyError) (st : Store) (r : CommitRequest) (l : LockInfo) → first_commit_error st.cells r r.keys ≡ x → ShowsLock (commit_by e x st r).reply l → ⊥
commit_shows (Some e) x st r l d h = h
commit_shows None (Some x) st r l d h = first_commit_hides st.cells r r.keys l (subst (λ o. ErrorShows o l) (sym d) h)
commit_shows None None st r l d h = h

committed_hides : (k : Key) (o : Option Write) (l : LockInfo) → ErrorShows (committed_error k o) l → ⊥
committed_hides k None l h = h
committed_hides k (Some w) l h = h

first_rollback_hides : (cs : List Cell) (s : ℕ) (ks : List Key) (l : LockInfo) → ErrorShows (first_rollback_error cs s ks) l → ⊥
first_rollback_hides cs s [] l h = h
first_rollback_hides cs s (k ∷ ks) l h = first_hides (rollback_error s k (cell_at cs k)) (first_rollback_error cs s ks) l (committed_hides k (commit_of (cell_at cs k).commits s) l) (first_rollback_hides cs s ks l) h

rollback_shows : (e : Option RegionErr) (x : Option KeyError) (st : Store) (r : BatchRollbackRequest) (l : LockInfo) → first_rollback_error st.cells r.start_version r.keys ≡ x → ShowsLock (batch_rollback_by e x st r).reply l → ⊥
rollback_shows (Some e) x st r l d h = h
rollback_shows None (Some x) st r l d h = first_rollback_hides st.cells r.start_version r.keys l (subst (λ o. ErrorShows o l) (sym d) h)
rollback_shows None None st r l d h = h

release_shows : (e : Option RegionErr) (st : Store) (r : PessimisticRollbackRequest) (l : LockInfo) → ShowsLock (pessimistic_rollback_by e st r).reply l → ⊥
release_shows (Some e) st r l h = h.1
release_shows None st r l h = h.1

resolve_shows : (e : Option RegionErr) (st : Store) (r : ResolveLockRequest) (l : LockInfo) → ShowsLock (resolve_lock_by e st r).reply l → ⊥
resolve_shows (Some e) st r l h = h
resolve_shows None st r l h = h

heart_beat_shows : (e : Option RegionErr) (o : Option Lock) (st : Store) (r : TxnHeartBeatRequest) (l : LockInfo) → ShowsLock (txn_heart_beat_by e o st r).reply l → ⊥
heart_beat_shows (Some e) o st r l h = h
heart_beat_shows None None st r l h = h
heart_beat_shows None (Some m) st r l h = h

refusal_shows : (p : Key) (s : ℕ) (o : Option Lock) (x : KeyError) (l : LockInfo) → cleanup_refusal p s o ≡ Some x → ErrorShows (Some x) l → (m : Lock) × (o ≡ Some m) × (lock_info p m ≡ l)
refusal_shows p s None x l h g = absurd (cc)
refusal_shows p s (Some m) x l h g = by (nat_eq m.start s) (key_eq m.primary p) (is_async_lock m) h
  where
    by : (a b d : Bool) → (if a then (if b then (if d then Some (errors.Locked (lock_info p m)) else None) else Some (errors.PrimaryMismatch (lock_info p m))) else None) ≡ Some x → (n : Lock) × (Some m ≡ Some n) × (lock_info p n ≡ l)
    by true true true e = (m, refl, (let same : errors.Locked (lock_info p m) ≡ x = cc in subst (λ z. ErrorShows (Some z) l) (sym same) g))
    by true true false e = absurd (cc)
    by true false d e = (m, refl, (let same : errors.PrimaryMismatch (lock_info p m) ≡ x = cc in subst (λ z. ErrorShows (Some z) l) (sym same) g))
    by false b d e = absurd (cc)

cleanup_shows : (e : Option RegionErr) (x : Option KeyError) (w : Option Write) (st : Store) (r : CleanupRequest) (l : LockInfo) → cleanup_refusal r.key r.start_version (cell_at st.cells r.key).lock ≡ x → ShowsLock (cleanup_by e x w st r).reply l → Stood st.cells l
cleanup_shows (Some e) x w st r l d h = absurd h
cleanup_shows None (Some x) w st r l d h = let f = refusal_shows r.key r.start_version (cell_at st.cells r.key).lock x l d h in record { at = r.key; key = r.key; lock = f.0; here = f.1; shown = f.2; same = refl }
cleanup_shows None None (Some w) st r l d h = absurd h
cleanup_shows None None None st r l d h = absurd h

lock_until_found : (t : ℕ) (k : Key) (o : Option Lock) (l : LockInfo) → lock_until t k o ≡ Some l → (m : Lock) × (o ≡ Some m) × (lock_info k m ≡ l)
lock_until_found t k None l h = absurd (cc)
lock_until_found t k (Some m) l h = by (nat_le m.start t) h
  where
    by : (b : Bool) → (if b then Some (lock_info k m) else None) ≡ Some l → (n : Lock) × (Some m ≡ Some n) × (lock_info k n ≡ l)
    by true e = (m, refl, cc)
    by false e = absurd (cc)

scan_lock_shows : (e : Option RegionErr) (st : Store) (r : ScanLockRequest) (l : LockInfo) → AreInOrder st.cells → ShowsLock (scan_lock_by e st r).reply l → Stood st.cells l
scan_lock_shows (Some e) st r l o h = absurd h
scan_lock_shows None st r l o h =
    let cs = cells_in r.start_key r.end_key st.cells in
    let w = among_filter_map (λ (c : Cell). lock_until r.max_version c.key c.lock) cs l (among_take r.limit (locks_until r.max_version cs) l h) in
    let f = lock_until_found r.max_version w.0.key w.0.lock l w.2 in
    let same = cell_among st.cells w.0 o (among_filter (λ (d : Cell). in_range r.start_key r.end_key d.key) st.cells w.0 w.1) in
    record { at = w.0.key; key = w.0.key; lock = f.0; here = ap (λ (c : Cell). c.lock) same ∙ f.1; shown = f.2; same = refl }

status_shows : (e : Option RegionErr) (f : Finding) (st : Store) (r : CheckTxnStatusRequest) (l : LockInfo) → FindsIn r (cell_at st.cells r.primary_key) f → ShowsLock (check_txn_status_by e f st r).reply l → Stood st.cells l
status_shows (Some e) f st r l d h = absurd (elim h [ inl a ↦ absurd (cc) | inr a ↦ a ])
status_shows None (Mismatched m) st r l d h = record { at = r.primary_key; key = r.primary_key; lock = m; here = d; shown = elim h [ inl a ↦ absurd (cc) | inr a ↦ a ]; same = refl }
status_shows None (Expired m) st r l d h = absurd (elim h [ inl a ↦ absurd (cc) | inr a ↦ a ])
status_shows None (Live m) st r l d h = record { at = r.primary_key; key = r.primary_key; lock = m; here = d; shown = elim h [ inl a ↦ cc | inr a ↦ absurd a ]; same = refl }
status_shows None (IsCommitted w) st r l d h = absurd (elim h [ inl a ↦ absurd (cc) | inr a ↦ a ])
status_shows None IsRolledBack st r l d h = absurd (elim h [ inl a ↦ absurd (cc) | inr a ↦ a ])
status_shows None Nothing st r l d h = absurd (by r.resolving_pessimistic_lock r.rollback_if_not_exist h)
  where
    by : (a b : Bool) → ShowsLock (reply.CheckTxnStatus (if a then status_told 0 0 actions.LockNotExistDoNothing None else (if b then status_told 0 0 actions.LockNotExistRollback None else record no_status { error = Some (errors.TxnNotFound r.primary_key r.lock_ts) }))) l → ⊥
    by true b g = elim g [ inl c ↦ absurd (cc) | inr c ↦ c ]
    by false true g = elim g [ inl c ↦ absurd (cc) | inr c ↦ c ]
    by false false g = elim g [ inl c ↦ absurd (cc) | inr c ↦ c ]

own_found : (s : ℕ) (k : Key) (o : Option Lock) (l : LockInfo) → shown_lock k (own_prewrite_lock s o) ≡ Some l → (m : Lock) × (o ≡ Some m) × (lock_info k m ≡ l)
own_found s k None l h = absurd (cc)
own_found s k (Some m) l h = by (nat_eq m.start s && is_prewrite m.kind) h
  where
    by : (b : Bool) → shown_lock k (if b then Some m else None) ≡ Some l → (n : Lock) × (Some m ≡ Some n) × (lock_info k n ≡ l)
    by true e = (m, refl, cc)
    by false e = absurd (cc)

secondary_shows : (e : Option RegionErr) (st : Store) (r : CheckSecondaryLocksRequest) (l : LockInfo) → ShowsLock (check_secondary_locks_by e st r).reply l → Stood st.cells l
secondary_shows (Some e) st r l h = absurd h
secondary_shows None st r l h =
    let w = among_filter_map (λ (k : Key). shown_lock k (own_prewrite_lock r.start_version (cell_at st.cells k).lock)) r.keys l h in
    let f = own_found r.start_version w.0 (cell_at st.cells w.0).lock l w.2 in
    record { at = w.0; key = w.0; lock = f.0; here = f.1; shown = f.2; same = refl }

pub shown_stood : (st : Store) (r : Request) → IsCovered r → AreInOrder st.cells → (l : LockInfo) → ShowsLock (table st r).reply l → Stood st.cells l
shown_stood st (Get r) c o l h = get_shows (region_check st.regions r.context) st r l h
shown_stood st (BatchGet r) c o l h = batch_get_shows (region_check st.regions r.context) st r l h
shown_stood st (Scan r) c o l h = scan_shows (region_check st.regions r.context) st r l o h
shown_stood st (Prewrite r) c o l h = prewrite_shows (region_check st.regions r.context) (prewrite_errors st.cells r r.mutations r.is_pessimistic_lock) (passed_commit st.cells r.start_version r.mutations) st r l refl h
shown_stood st (Commit r) c o l h = absurd (commit_shows (region_check st.regions r.context) (first_commit_error st.cells r r.keys) st r l refl h)
shown_stood st (Cleanup r) c o l h = cleanup_shows (region_check st.regions r.context) (cleanup_refusal r.key r.start_version (cell_at st.cells r.key).lock) (commit_of (cell_at st.cells r.key).commits r.start_version) st r l refl h
shown_stood st (BatchRollback r) c o l h = absurd (rollback_shows (region_check st.regions r.context) (first_rollback_error st.cells r.start_version r.keys) st r l refl h)
shown_stood st (PessimisticRollback r) c o l h = absurd (release_shows (region_check st.regions r.context) st r l h)
shown_stood st (PessimisticLock r) c o l h = pessimistic_lock_shows (region_check st.regions r.context) (pessimistic_errors st.cells r) st r l refl h
shown_stood st (ResolveLock r) c o l h = absurd (resolve_shows (region_check st.regions r.context) st r l h)
shown_stood st (ScanLock r) c o l h = scan_lock_shows (region_check st.regions r.context) st r l o h
shown_stood st (TxnHeartBeat r) c o l h = absurd (heart_beat_shows (region_check st.regions r.context) (lock_of_start r.start_version (cell_at st.cells r.primary_lock).lock) st r l h)
shown_stood st (CheckTxnStatus r) c o l h = status_shows (region_check st.regions r.context) (finding r (cell_at st.cells r.primary_key)) st r l (finds r (cell_at st.cells r.primary_key)) h
shown_stood st (CheckSecondaryLocks r) c o l h = secondary_shows (region_check st.regions r.context) st r l h
shown_stood st (UnsafeDestroyRange r) c o l h = absurd c
shown_stood st (GetRegion r) c o l h = absurd h
shown_stood st (GetRegionById r) c o l h = absurd h
shown_stood st (GetStore r) c o l h = absurd h
shown_stood st (GetAllStores r) c o l h = absurd h
shown_stood st (UpdateGcSafePoint r) c o l h = absurd h
shown_stood st (Tso r) c o l h = absurd h
shown_stood st (Members r) c o l h = absurd h
