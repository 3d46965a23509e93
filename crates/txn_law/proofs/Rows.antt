-- Each row of the request table changes each cell by a step that its request may make.
use Rattle.std.proofs.Common.{◌≡◌, ℕ, Bool, true, false, not, ◌&&◌, ◌||◌, List, [], ◌∷◌, Option, Some, None, nat_eq, refl, sym, subst, arith, ◌<◌, ◌≤◌, ◌⊎◌, inl, inr, nat_lt}
use Rattle.std.specs.Prelude.{if◌then◌else◌, is_some}
use Rattle.std.proofs.lemmas.Bool.Decides.{nat_tests}
use Rattle.txn_kv.specs.declared.message.KeyError.{KeyError}
use Rattle.txn_kv.specs.declared.message.RegionErr.{RegionErr}
use Rattle.txn_kv.specs.declared.request.Request.{Request}
use Rattle.txn_kv.specs.declared.request.Request.TheVariants.{Get, BatchGet, Scan, Prewrite, Commit, Cleanup, BatchRollback, PessimisticRollback, PessimisticLock, ResolveLock, ScanLock, TxnHeartBeat, CheckTxnStatus, CheckSecondaryLocks, UnsafeDestroyRange, GetRegion, GetRegionById, GetStore, GetAllStores, UpdateGcSafePoint, Tso, Members}
use Rattle.txn_kv.specs.declared.request.reads.GetRequest.{GetRequest}
use Rattle.txn_kv.specs.declared.request.reads.BatchGetRequest.{BatchGetRequest}
use Rattle.txn_kv.specs.declared.request.reads.ScanRequest.{ScanRequest}
use Rattle.txn_kv.specs.declared.request.locks.ScanLockRequest.{ScanLockRequest}
use Rattle.txn_kv.specs.declared.request.commits.CommitRequest.{CommitRequest}
use Rattle.txn_kv.specs.declared.request.locks.CleanupRequest.{CleanupRequest}
use Rattle.txn_kv.specs.declared.request.commits.BatchRollbackRequest.{BatchRollbackRequest}
use Rattle.txn_kv.specs.declared.request.locks.PessimisticLockRequest.{PessimisticLockRequest}
use Rattle.txn_kv.specs.declared.request.locks.PessimisticRollbackRequest.{PessimisticRollbackRequest}
use Rattle.txn_kv.specs.declared.request.commits.TxnHeartBeatRequest.{TxnHeartBeatRequest}
use Rattle.txn_kv.specs.declared.request.locks.CheckTxnStatusRequest.{CheckTxnStatusRequest}
use Rattle.txn_kv.specs.declared.request.locks.CheckSecondaryLocksRequest.{CheckSecondaryLocksRequest}
use Rattle.txn_history.specs.Among.{IsAmong}
use Rattle.txn_kv.specs.declared.message.Mutation.{Mutation}
use Rattle.std.specs.List.{filter_map, cons_option}
use Rattle.txn_history.specs.Plan.{Key, Content, has_key}
use Rattle.txn_model.specs.declared.cell.Cell.{Cell}
use Rattle.txn_model.specs.declared.cell.Lock.{Lock}
use Rattle.txn_model.specs.declared.cell.Write.{Write}
use Rattle.txn_model.specs.Cells.{key_eq, cell_at, AreInOrder}
use Rattle.txn_model.specs.Commit.{commit_by, first_commit_error, committed}
use Rattle.txn_model.specs.Locks.{has_start, is_prewrite, owns, holds, commit_of, newest_commit, or_earlier, lock_info, is_async_lock}
use Rattle.txn_model.specs.Placement.{region_check}
use Rattle.txn_model.specs.Prewrite.{mutation_keys, prewrite_errors, passed_commit}
use Rattle.txn_model.specs.Rollback.{cleanup_refusal, cleanup_by, batch_rollback_by, first_rollback_error, committed_error, pessimistic_rollback_by, released_by, is_for_update_by}
use Rattle.txn_model.specs.Status.{is_over, locked_finding, finding, Finding, unlocked_finding, status_cell, is_expired, goes_unrecorded, check_txn_status_by, is_missing, missing_rolled_back, check_secondary_locks_by, longer_lived, with_lock, txn_heart_beat_by}
use Rattle.txn_model.specs.PessimisticLock.{asserts_absence, value_for_update, newest_conflict, held_conflict, pessimistic_error, pessimistic_errors, raised_lock, locked_for_update, pessimistic_lock_by}
use Rattle.txn_model.specs.Read.{get_by, batch_get_by, scan_by}
use Rattle.txn_model.specs.Resolve.{scan_lock_by}
use Rattle.txn_model.specs.Settle.{rolled_back, released, lock_of_start}
use Rattle.txn_model.specs.Status.Finding.{Mismatched, Expired, Live, IsCommitted, IsRolledBack, Nothing}
use Rattle.txn_model.specs.Store.{Store}
use Rattle.txn_model.specs.Table.{table}
use Rattle.txn_model.proofs.CellLists.{KeepsKeys}
use Rattle.txn_model.proofs.Keys.{same_key}
use Rattle.txn_law.specs.Run.{IsCovered}
use Rattle.txn_law.specs.Sound.{IsTimely}
use Rattle.txn_law.proofs.Phases.{phase, IsSound, IsClear}
use Rattle.txn_law.proofs.Phases.Phase.{Locked}
use Rattle.txn_law.proofs.Moves.{Names, IsPlainOf, CellStep, RowStep, row_same, row_changed, if_cell}
use Rattle.txn_law.proofs.Moves.CellStep.{Same, Held, Recorded, Made, Released, Renewed}
use Rattle.txn_law.proofs.Prewriting.{row_prewrite}
use Rattle.txn_law.proofs.Settling.{commit_keeps, release_keeps, row_resolve}
use Rattle.txn_kv.specs.declared.message.KeyError.TheVariants as errors

-- the only key of a list
pub only_key : (p k : Key) → has_key (p ∷ []) k ≡ true → k ≡ p
only_key p k h = by (key_eq p k) refl h
  where
    by : (b : Bool) → key_eq p k ≡ b → (b || false) ≡ true → k ≡ p
    by true e g = sym (same_key p k e)
    by false e g = absurd (cc)

row_get : (st : Store) (r : GetRequest) → AreInOrder st.cells → (e : Option RegionErr) → RowStep st (Get r) (get_by e st r).store.cells
row_get st r o (Some e) = row_same st (Get r) o
row_get st r o None = row_same st (Get r) o

row_batch_get : (st : Store) (r : BatchGetRequest) → AreInOrder st.cells → (e : Option RegionErr) → RowStep st (BatchGet r) (batch_get_by e st r).store.cells
row_batch_get st r o (Some e) = row_same st (BatchGet r) o
row_batch_get st r o None = row_same st (BatchGet r) o

row_scan : (st : Store) (r : ScanRequest) → AreInOrder st.cells → (e : Option RegionErr) → RowStep st (Scan r) (scan_by e st r).store.cells
row_scan st r o (Some e) = row_same st (Scan r) o
row_scan st r o None = row_same st (Scan r) o

row_scan_lock : (st : Store) (r : ScanLockRequest) → AreInOrder st.cells → (e : Option RegionErr) → RowStep st (ScanLock r) (scan_lock_by e st r).store.cells
row_scan_lock st r o (Some e) = row_same st (ScanLock r) o
row_scan_lock st r o None = row_same st (ScanLock r) o

row_commit : (st : Store) (r : CommitRequest) → AreInOrder st.cells → (e : Option RegionErr) (error : Option KeyError) → RowStep st (Commit r) (commit_by e error st r).store.cells
row_commit st r o (Some e) error = row_same st (Commit r) o
row_commit st r o None (Some x) = row_same st (Commit r) o
row_commit st r o None None = row_changed st (Commit r) r.keys (committed r.start_version r.commit_version) (commit_keeps r.start_version r.commit_version) o (λ k a i. Made r.start_version r.commit_version (refl, refl, a))

-- BatchRollback

pub passes_rollback : (cs : List Cell) (s : ℕ) (ks : List Key) (k : Key) → first_rollback_error cs s ks ≡ None → has_key ks k ≡ true → commit_of (cell_at cs k).commits s ≡ None
passes_rollback cs s [] k h g = absurd (cc)
passes_rollback cs s (q ∷ ks) k h g = by (λ a b. passes_rollback cs s ks k a b) (commit_of (cell_at cs q).commits s) (key_eq q k) refl refl h g
  where
    by : (first_rollback_error cs s ks ≡ None → has_key ks k ≡ true → commit_of (cell_at cs k).commits s ≡ None) → (o : Option Write) (b : Bool) → commit_of (cell_at cs q).commits s ≡ o → key_eq q k ≡ b → or_earlier (committed_error q o) (first_rollback_error cs s ks) ≡ None → (b || has_key ks k) ≡ true → commit_of (cell_at cs k).commits s ≡ None
    by rest (Some w) b e f u v = absurd (cc)
    by rest None true e f u v = subst (λ z. commit_of (cell_at cs z).commits s ≡ None) (same_key q k f) e
    by rest None false e f u v = rest u v

pub rolled_keeps : (s : ℕ) → KeepsKeys (rolled_back s)
rolled_keeps s c = refl

row_batch_rollback : (st : Store) (r : BatchRollbackRequest) → AreInOrder st.cells → (e : Option RegionErr) (error : Option KeyError) → first_rollback_error st.cells r.start_version r.keys ≡ error → RowStep st (BatchRollback r) (batch_rollback_by e error st r).store.cells
row_batch_rollback st r o (Some e) error h = row_same st (BatchRollback r) o
row_batch_rollback st r o None (Some x) h = row_same st (BatchRollback r) o
row_batch_rollback st r o None None h = row_changed st (BatchRollback r) r.keys (rolled_back r.start_version) (rolled_keeps r.start_version) o (λ k a i. Recorded r.start_version (passes_rollback st.cells r.start_version r.keys k h a) (refl, a))

-- Cleanup

matched_names : (c : Cell) (p : Key) (s : ℕ) → cleanup_refusal p s c.lock ≡ None → Names (phase c s) p
matched_names c p s h q x e = by_lock c.lock refl
  where
    by_lock : (o : Option Lock) → c.lock ≡ o → q ≡ p
    by_lock None d = grind (arith, nat_tests)
    by_lock (Some l) d = grind (arith, nat_tests, same_key l.primary p)

matched_plain : (c : Cell) (p : Key) (s : ℕ) → cleanup_refusal p s c.lock ≡ None → IsPlainOf c s
matched_plain c p s h l e o = by (nat_eq l.start s) (key_eq l.primary p) l.use_async (is_prewrite l.kind) refl o (rw e at h)
  where
    by : (a b d k : Bool) → l.use_async ≡ d → (a && k) ≡ true → (if a then (if b then (if d && k then Some (errors.Locked (lock_info p l)) else None) else Some (errors.PrimaryMismatch (lock_info p l))) else None) ≡ None → l.use_async ≡ false
    by true true true true u g z = absurd (cc)
    by true true true false u g z = absurd (cc)
    by true true false k u g z = u
    by true false d k u g z = absurd (cc)
    by false b d k u g z = absurd (cc)

row_cleanup : (st : Store) (r : CleanupRequest) → AreInOrder st.cells → (e : Option RegionErr) (x : Option KeyError) (write : Option Write) → cleanup_refusal r.key r.start_version (cell_at st.cells r.key).lock ≡ x → commit_of (cell_at st.cells r.key).commits r.start_version ≡ write → RowStep st (Cleanup r) (cleanup_by e x write st r).store.cells
row_cleanup st r o (Some e) x w a b = row_same st (Cleanup r) o
row_cleanup st r o None (Some x) w a b = row_same st (Cleanup r) o
row_cleanup st r o None None (Some w) a b = row_same st (Cleanup r) o
row_cleanup st r o None None None a b = row_changed st (Cleanup r) (r.key ∷ []) (rolled_back r.start_version) (rolled_keeps r.start_version) o (λ k g i. by k (only_key r.key k g))
  where
    by : (k : Key) → k ≡ r.key → CellStep 0 (Cleanup r) k (cell_at st.cells k) (rolled_back r.start_version (cell_at st.cells k))
    by k e = Recorded r.start_version (subst (λ q. commit_of (cell_at st.cells q).commits r.start_version ≡ None) (sym e) b) (refl, e, subst (λ q. Names (phase (cell_at st.cells q) r.start_version) r.key) (sym e) (matched_names (cell_at st.cells r.key) r.key r.start_version a), subst (λ q. IsPlainOf (cell_at st.cells q) r.start_version) (sym e) (matched_plain (cell_at st.cells r.key) r.key r.start_version a))

-- CheckTxnStatus: what its finding says of the cell

abbrev pub FindsIn : CheckTxnStatusRequest → Cell → Finding → Type 0
FindsIn r c (Expired l) = (c.lock ≡ Some l) × (l.start ≡ r.lock_ts) × (l.primary ≡ r.primary_key) × ((r.force_sync_commit ≡ true) ⊎ (is_async_lock l ≡ false))
FindsIn r c (Mismatched l) = c.lock ≡ Some l
FindsIn r c (Live l) = c.lock ≡ Some l
FindsIn r c (IsCommitted w) = commit_of c.commits r.lock_ts ≡ Some w
FindsIn r c IsRolledBack = has_start c.rolled r.lock_ts ≡ true
FindsIn r c Nothing = (commit_of c.commits r.lock_ts ≡ None) × (holds c.lock r.lock_ts ≡ false)

unlocked_finds : (r : CheckTxnStatusRequest) (c : Cell) → holds c.lock r.lock_ts ≡ false → (o : Option Write) (b : Bool) → commit_of c.commits r.lock_ts ≡ o → has_start c.rolled r.lock_ts ≡ b → FindsIn r c (unlocked_finding o b)
unlocked_finds r c h (Some w) b e f = e
unlocked_finds r c h None true e f = f
unlocked_finds r c h None false e f = (e, h)

over_plain : (r : CheckTxnStatusRequest) (l : Lock) → is_over r l ≡ true → (r.force_sync_commit ≡ true) ⊎ (is_async_lock l ≡ false)
over_plain r l h = by (is_expired r.current_ts l) r.force_sync_commit (is_async_lock l) refl refl h
  where
    by : (a b d : Bool) → r.force_sync_commit ≡ b → is_async_lock l ≡ d → (a && (b || not d)) ≡ true → (r.force_sync_commit ≡ true) ⊎ (is_async_lock l ≡ false)
    by a true d e f g = inl e
    by a false false e f g = inr f
    by true false true e f g = absurd (cc)
    by false false true e f g = absurd (cc)

lock_finds : (r : CheckTxnStatusRequest) (c : Cell) (l : Lock) → c.lock ≡ Some l → l.start ≡ r.lock_ts → (a b : Bool) → key_eq l.primary r.primary_key ≡ a → is_over r l ≡ b → FindsIn r c (if a then (if b then Expired l else Live l) else Mismatched l)
lock_finds r c l e f true true g h = (e, f, same_key l.primary r.primary_key g, over_plain r l h)
lock_finds r c l e f true false g h = e
lock_finds r c l e f false b g h = e

pub finds : (r : CheckTxnStatusRequest) (c : Cell) → FindsIn r c (finding r c)
finds r c = by_lock c.lock refl
  where
    by_start : (l : Lock) → c.lock ≡ Some l → (b : Bool) → nat_eq l.start r.lock_ts ≡ b → FindsIn r c (locked_finding r (if b then Some l else None) c)
    by_start l e true f = lock_finds r c l e (grind (arith, nat_tests)) (key_eq l.primary r.primary_key) (is_over r l) refl refl
    by_start l e false f = unlocked_finds r c (rw e f) (commit_of c.commits r.lock_ts) (has_start c.rolled r.lock_ts) refl refl

    by_lock : (o : Option Lock) → c.lock ≡ o → FindsIn r c (locked_finding r (lock_of_start r.lock_ts o) c)
    by_lock None e = unlocked_finds r c (rw e refl) (commit_of c.commits r.lock_ts) (has_start c.rolled r.lock_ts) refl refl
    by_lock (Some l) e = by_start l e (nat_eq l.start r.lock_ts) refl

found_names : (c : Cell) (l : Lock) (p : Key) (s : ℕ) → c.lock ≡ Some l → l.primary ≡ p → Names (phase c s) p
found_names c l p s e d q x h = grind (arith, nat_tests)

free_names : (c : Cell) (p : Key) (s : ℕ) → holds c.lock s ≡ false → Names (phase c s) p
free_names c p s e q x h = by_lock c.lock refl
  where
    by_lock : (o : Option Lock) → c.lock ≡ o → q ≡ p
    by_lock None d = grind (arith, nat_tests)
    by_lock (Some l) d = grind (arith, nat_tests)

found_uncommitted : (c : Cell) (l : Lock) (s : ℕ) → IsSound c → c.lock ≡ Some l → l.start ≡ s → commit_of c.commits s ≡ None
found_uncommitted c l s i e f = (i.lock s (rw e (grind (arith, nat_tests)))).1

found_plain : (c : Cell) (l m : Lock) (s : ℕ) → c.lock ≡ Some l → is_async_lock l ≡ false → c.lock ≡ Some m → owns (Some m) s ≡ true → m.use_async ≡ false
found_plain c l m s e f g o = let same : l ≡ m = cc in by m.use_async (is_prewrite m.kind) (nat_eq m.start s) refl (subst (λ z. is_async_lock z ≡ false) same f) o
  where
    by : (a b d : Bool) → m.use_async ≡ a → (a && b) ≡ false → (d && b) ≡ true → m.use_async ≡ false
    by false b d u v w = u
    by true true d u v w = absurd (cc)
    by true false true u v w = absurd (cc)
    by true false false u v w = absurd (cc)

free_plain : (c : Cell) (s : ℕ) → holds c.lock s ≡ false → IsPlainOf c s
free_plain c s h l e o = absurd (by (nat_eq l.start s) (is_prewrite l.kind) o (rw e at h))
  where
    by : (a b : Bool) → (a && b) ≡ true → a ≡ false → ⊥
    by true b u v = cc
    by false b u v = cc

row_expired : (r : CheckTxnStatusRequest) (k : Key) (c : Cell) (l : Lock) → IsSound c → k ≡ r.primary_key → FindsIn r c (Expired l) → (b : Bool) → CellStep 0 (CheckTxnStatus r) k c (if b then released r.lock_ts c else rolled_back r.lock_ts c)
row_expired r k c l i e d true = Released r.lock_ts
row_expired r k c l i e d false = Recorded r.lock_ts (found_uncommitted c l r.lock_ts i d.0 d.1) (refl, e, found_names c l r.primary_key r.lock_ts d.0 d.2, elim d.3 [ inl f ↦ inl f | inr f ↦ inr (λ m g o. found_plain c l m r.lock_ts d.0 f g o) ])

row_missing : (r : CheckTxnStatusRequest) (k : Key) (c : Cell) → k ≡ r.primary_key → FindsIn r c Nothing → (b : Bool) → CellStep 0 (CheckTxnStatus r) k c (if b then rolled_back r.lock_ts c else c)
row_missing r k c e d true = Recorded r.lock_ts d.0 (refl, e, free_names c r.primary_key r.lock_ts d.1, inr (free_plain c r.lock_ts d.1))
row_missing r k c e d false = Same

row_found : (r : CheckTxnStatusRequest) (k : Key) (c : Cell) → IsSound c → k ≡ r.primary_key → (f : Finding) → FindsIn r c f → CellStep 0 (CheckTxnStatus r) k c (status_cell r f c)
row_found r k c i e (Mismatched l) d = Same
row_found r k c i e (Expired l) d = row_expired r k c l i e d (goes_unrecorded r l)
row_found r k c i e (Live l) d = Same
row_found r k c i e (IsCommitted w) d = Same
row_found r k c i e IsRolledBack d = Same
row_found r k c i e Nothing d = row_missing r k c e d (r.rollback_if_not_exist && not r.resolving_pessimistic_lock)

pub status_keeps : (r : CheckTxnStatusRequest) (f : Finding) → KeepsKeys (status_cell r f)
status_keeps r (Mismatched l) c = refl
status_keeps r (Expired l) c = by (goes_unrecorded r l)
  where
    by : (b : Bool) → (if b then released r.lock_ts c else rolled_back r.lock_ts c).key ≡ c.key
    by true = release_keeps r.lock_ts c
    by false = refl
status_keeps r (Live l) c = refl
status_keeps r (IsCommitted w) c = refl
status_keeps r IsRolledBack c = refl
status_keeps r Nothing c = by (r.rollback_if_not_exist && not r.resolving_pessimistic_lock)
  where
    by : (b : Bool) → (if b then rolled_back r.lock_ts c else c).key ≡ c.key
    by true = refl
    by false = refl

row_status : (st : Store) (r : CheckTxnStatusRequest) → AreInOrder st.cells → (e : Option RegionErr) (f : Finding) → FindsIn r (cell_at st.cells r.primary_key) f → RowStep st (CheckTxnStatus r) (check_txn_status_by e f st r).store.cells
row_status st r o (Some e) f d = row_same st (CheckTxnStatus r) o
row_status st r o None f d = row_changed st (CheckTxnStatus r) (r.primary_key ∷ []) (status_cell r f) (status_keeps r f) o (λ k g i. row_found r k (cell_at st.cells k) i (only_key r.primary_key k g) f (subst (λ q. FindsIn r (cell_at st.cells q) f) (sym (only_key r.primary_key k g)) d))

-- CheckSecondaryLocks

missing_uncommitted : (s : ℕ) (c : Cell) → is_missing s c ≡ true → (commit_of c.commits s ≡ None) × (owns c.lock s ≡ false)
missing_uncommitted s c h = by (owns c.lock s) (commit_of c.commits s) h
  where
    by : (a : Bool) (o : Option Write) → (not a && not (is_some o)) ≡ true → (o ≡ None) × (a ≡ false)
    by true o e = absurd (cc)
    by false None e = (refl, refl)
    by false (Some w) e = absurd (cc)

not_owned : (c : Cell) (s : ℕ) → owns c.lock s ≡ false → (q : Key) (x : Content) → phase c s ≡ Locked q x → ⊥
not_owned c s h q x e = by_lock c.lock refl
  where
    by_lock : (o : Option Lock) → c.lock ≡ o → ⊥
    by_lock None d = grind (arith, nat_tests)
    by_lock (Some l) d = grind (arith, nat_tests)

pub missing_keeps : (s : ℕ) → KeepsKeys (missing_rolled_back s)
missing_keeps s c = by (is_missing s c)
  where
    by : (b : Bool) → (if b then rolled_back s c else c).key ≡ c.key
    by true = refl
    by false = refl

row_secondary : (st : Store) (r : CheckSecondaryLocksRequest) → AreInOrder st.cells → (e : Option RegionErr) → RowStep st (CheckSecondaryLocks r) (check_secondary_locks_by e st r).store.cells
row_secondary st r o (Some e) = row_same st (CheckSecondaryLocks r) o
row_secondary st r o None = row_changed st (CheckSecondaryLocks r) r.keys (missing_rolled_back r.start_version) (missing_keeps r.start_version) o (λ k a i. if_cell (CellStep 0 (CheckSecondaryLocks r) k (cell_at st.cells k)) (is_missing r.start_version (cell_at st.cells k)) (cell_at st.cells k) (rolled_back r.start_version (cell_at st.cells k)) Same (λ e. let h = missing_uncommitted r.start_version (cell_at st.cells k) e in Recorded r.start_version h.0 (refl, not_owned (cell_at st.cells k) r.start_version h.1)))

-- PessimisticRollback

pub for_update_keeps : (s f : ℕ) → KeepsKeys (released_by s f)
for_update_keeps s f c = by (is_for_update_by f c.lock)
  where
    by : (b : Bool) → (if b then released s c else c).key ≡ c.key
    by true = release_keeps s c
    by false = refl

row_pessimistic_rollback : (st : Store) (r : PessimisticRollbackRequest) → AreInOrder st.cells → (e : Option RegionErr) → RowStep st (PessimisticRollback r) (pessimistic_rollback_by e st r).store.cells
row_pessimistic_rollback st r o (Some e) = row_same st (PessimisticRollback r) o
row_pessimistic_rollback st r o None = row_changed st (PessimisticRollback r) r.keys (released_by r.start_version r.for_update_ts) (for_update_keeps r.start_version r.for_update_ts) o (λ k a i. if_cell (CellStep 0 (PessimisticRollback r) k (cell_at st.cells k)) (is_for_update_by r.for_update_ts (cell_at st.cells k).lock) (cell_at st.cells k) (released r.start_version (cell_at st.cells k)) Same (λ e. Released r.start_version))

-- TxnHeartBeat

lock_found : (s : ℕ) (o : Option Lock) (l : Lock) → lock_of_start s o ≡ Some l → o ≡ Some l
lock_found s None l h = absurd (cc)
lock_found s (Some m) l h = by (nat_eq m.start s) h
  where
    by : (b : Bool) → (if b then Some m else None) ≡ Some l → Some m ≡ Some l
    by true e = e
    by false e = absurd (cc)

lock_keeps : (l : Lock) → KeepsKeys (with_lock l)
lock_keeps l c = refl

row_heart_beat : (st : Store) (r : TxnHeartBeatRequest) → AreInOrder st.cells → (e : Option RegionErr) (lock : Option Lock) → lock_of_start r.start_version (cell_at st.cells r.primary_lock).lock ≡ lock → RowStep st (TxnHeartBeat r) (txn_heart_beat_by e lock st r).store.cells
row_heart_beat st r o (Some e) lock h = row_same st (TxnHeartBeat r) o
row_heart_beat st r o None None h = row_same st (TxnHeartBeat r) o
row_heart_beat st r o None (Some l) h = row_changed st (TxnHeartBeat r) (r.primary_lock ∷ []) (with_lock (longer_lived r.advise_lock_ttl l)) (lock_keeps (longer_lived r.advise_lock_ttl l)) o (λ k g i. Renewed l r.advise_lock_ttl (subst (λ q. (cell_at st.cells q).lock ≡ Some l) (sym (only_key r.primary_lock k g)) (lock_found r.start_version (cell_at st.cells r.primary_lock).lock l h)))

-- PessimisticLock

none_mapped : {X Y : Type 0} (f : X → Option Y) (xs : List X) (x : X) → filter_map f xs ≡ [] → IsAmong xs x → f x ≡ None
none_mapped f [] x h a = absurd a
none_mapped {X} {Y} f (y ∷ ys) x h a = by (λ g b. none_mapped f ys x g b) (f y) refl h
  where
    by : (filter_map f ys ≡ [] → IsAmong ys x → f x ≡ None) → (o : Option Y) → f y ≡ o → cons_option o (filter_map f ys) ≡ [] → f x ≡ None
    by rest None e g = elim a [ inl q ↦ subst (λ z. f z ≡ None) q e | inr b ↦ rest g b ]
    by rest (Some z) e g = absurd (cc)

mutation_of_key : (ms : List Mutation) (k : Key) → has_key (mutation_keys ms) k ≡ true → (m : Mutation) × IsAmong ms m × (m.key ≡ k)
mutation_of_key [] k h = absurd (cc)
mutation_of_key (m ∷ ms) k h = by (λ g. mutation_of_key ms k g) (key_eq m.key k) refl h
  where
    by : (has_key (mutation_keys ms) k ≡ true → (n : Mutation) × IsAmong ms n × (n.key ≡ k)) → (b : Bool) → key_eq m.key k ≡ b → (b || has_key (mutation_keys ms) k) ≡ true → (n : Mutation) × IsAmong (m ∷ ms) n × (n.key ≡ k)
    by rest true e g = (m, inl refl, same_key m.key k e)
    by rest false e g = let w = rest g in (w.0, inr w.1, w.2)

raised_kind : (r : PessimisticLockRequest) (o : Option Lock) → is_prewrite (raised_lock r o).kind ≡ false
raised_kind r None = refl
raised_kind r (Some l) = refl

raised_start : (r : PessimisticLockRequest) (o : Option Lock) → (raised_lock r o).start ≡ r.start_version
raised_start r None = refl
raised_start r (Some l) = refl

-- the newest commit is at most the for-update timestamp
newest_low : (r : PessimisticLockRequest) (m : Mutation) (c : Cell) → newest_conflict r m c ≡ None → newest_commit c.commits ≤ r.for_update_ts
newest_low r m c h = by (nat_lt r.for_update_ts (newest_commit c.commits)) refl h
  where
    by : (b : Bool) → nat_lt r.for_update_ts (newest_commit c.commits) ≡ b → (if b then Some (errors.WriteConflict m.key r.start_version (newest_commit c.commits)) else (if asserts_absence m.assertion && is_some (value_for_update r c) then Some (errors.AlreadyExist m.key) else None)) ≡ None → newest_commit c.commits ≤ r.for_update_ts
    by true e g = absurd (cc)
    by false e g = grind (arith, nat_tests)

found_among : (ws : List Write) (s : ℕ) (w : Write) → commit_of ws s ≡ Some w → IsAmong ws w
found_among [] s w h = absurd (cc)
found_among (v ∷ ws) s w h = grind (arith, nat_tests, found_among ws s w)

not_late : (r : PessimisticLockRequest) (c : Cell) → IsSound c → newest_commit c.commits ≤ r.for_update_ts → ((w : Write) → commit_of c.commits r.start_version ≡ Some w → r.for_update_ts < w.commit) → (o : Option Write) → commit_of c.commits r.start_version ≡ o → commit_of c.commits r.start_version ≡ None
not_late r c i low timely None e = e
not_late r c i low timely (Some w) e = absurd (let a = timely w e in let b = i.newest w (found_among c.commits r.start_version w e) in omega (arith, low, a, b))

clear_cell : (r : PessimisticLockRequest) (m : Mutation) (c : Cell) → IsSound c → pessimistic_error r m c ≡ None → ((w : Write) → commit_of c.commits r.start_version ≡ Some w → r.for_update_ts < w.commit) → IsClear c r.start_version
clear_cell r m c i h timely = by_rolled (has_start c.rolled r.start_version) refl h
  where
    clear : has_start c.rolled r.start_version ≡ false → newest_conflict r m c ≡ None → ((l : Lock) → c.lock ≡ Some l → (l.start ≡ r.start_version) × (is_prewrite l.kind ≡ false)) → IsClear c r.start_version
    clear a g u = record { unrolled = a; uncommitted = not_late r c i (newest_low r m c g) timely (commit_of c.commits r.start_version) refl; unlocked = u }

    by_own : has_start c.rolled r.start_version ≡ false → (l : Lock) → c.lock ≡ Some l → (x y : Bool) → nat_eq l.start r.start_version ≡ x → is_prewrite l.kind ≡ y → (if x then (if y then Some (errors.Abort m.key r.start_version 0) else newest_conflict r m c) else Some (errors.Locked (lock_info m.key l))) ≡ None → IsClear c r.start_version
    by_own a l e true true f y g = absurd (cc)
    by_own a l e true false f y g = clear a g (λ n d. let same : l ≡ n = cc in (subst (λ (q : Lock). q.start ≡ r.start_version) same (grind (arith, nat_tests)), subst (λ (q : Lock). is_prewrite q.kind ≡ false) same y))
    by_own a l e false y f z g = absurd (cc)

    by_lock : has_start c.rolled r.start_version ≡ false → (o : Option Lock) → c.lock ≡ o → held_conflict r m c o ≡ None → IsClear c r.start_version
    by_lock a None e g = clear a g (λ n d. absurd (cc))
    by_lock a (Some l) e g = by_own a l e (nat_eq l.start r.start_version) (is_prewrite l.kind) refl refl g

    by_rolled : (b : Bool) → has_start c.rolled r.start_version ≡ b → (if b then Some (errors.Abort m.key r.start_version 0) else held_conflict r m c c.lock) ≡ None → IsClear c r.start_version
    by_rolled true e g = absurd (cc)
    by_rolled false e g = by_lock e c.lock refl g

error_low : (r : PessimisticLockRequest) (m : Mutation) (c : Cell) → pessimistic_error r m c ≡ None → newest_commit c.commits ≤ r.for_update_ts
error_low r m c h = by_rolled (has_start c.rolled r.start_version) h
  where
    by_own : (l : Lock) (x y : Bool) → (if x then (if y then Some (errors.Abort m.key r.start_version 0) else newest_conflict r m c) else Some (errors.Locked (lock_info m.key l))) ≡ None → newest_commit c.commits ≤ r.for_update_ts
    by_own l true true g = absurd (cc)
    by_own l true false g = newest_low r m c g
    by_own l false y g = absurd (cc)

    by_lock : (o : Option Lock) → held_conflict r m c o ≡ None → newest_commit c.commits ≤ r.for_update_ts
    by_lock None g = newest_low r m c g
    by_lock (Some l) g = by_own l (nat_eq l.start r.start_version) (is_prewrite l.kind) g

    by_rolled : (b : Bool) → (if b then Some (errors.Abort m.key r.start_version 0) else held_conflict r m c c.lock) ≡ None → newest_commit c.commits ≤ r.for_update_ts
    by_rolled true g = absurd (cc)
    by_rolled false g = by_lock c.lock g

for_update_lock_keeps : (r : PessimisticLockRequest) → KeepsKeys (locked_for_update r)
for_update_lock_keeps r c = refl

row_pessimistic_lock : (st : Store) (r : PessimisticLockRequest) → IsTimely st (PessimisticLock r) → AreInOrder st.cells → (e : Option RegionErr) (es : List KeyError) → pessimistic_errors st.cells r ≡ es → RowStep st (PessimisticLock r) (pessimistic_lock_by e es st r).store.cells
row_pessimistic_lock st r timely o (Some e) es h = row_same st (PessimisticLock r) o
row_pessimistic_lock st r timely o None (x ∷ xs) h = row_same st (PessimisticLock r) o
row_pessimistic_lock st r timely o None [] h = row_changed st (PessimisticLock r) (mutation_keys r.mutations) (locked_for_update r) (for_update_lock_keeps r) o (λ k a i. by k a i (mutation_of_key r.mutations k a))
  where
    by : (k : Key) → has_key (mutation_keys r.mutations) k ≡ true → IsSound (cell_at st.cells k) → (m : Mutation) × IsAmong r.mutations m × (m.key ≡ k) → CellStep 0 (PessimisticLock r) k (cell_at st.cells k) (locked_for_update r (cell_at st.cells k))
    by k a i w =
        let passed = none_mapped (λ (q : Mutation). pessimistic_error r q (cell_at st.cells q.key)) r.mutations w.0 h w.1 in
        let here = subst (λ q. pessimistic_error r w.0 (cell_at st.cells q) ≡ None) w.2 passed in
        let lock = raised_lock r (cell_at st.cells k).lock in
        Held lock (raised_kind r (cell_at st.cells k).lock) (subst (IsClear (cell_at st.cells k)) (sym (raised_start r (cell_at st.cells k).lock)) (clear_cell r w.0 (cell_at st.cells k) i here (timely k))) (r, refl, sym (raised_start r (cell_at st.cells k).lock), error_low r w.0 (cell_at st.cells k) here, a, refl)

pub row : (st : Store) (r : Request) → IsCovered r → IsTimely st r → AreInOrder st.cells → RowStep st r (table st r).store.cells
row st (Get r) h t o = row_get st r o (region_check st.regions r.context)
row st (BatchGet r) h t o = row_batch_get st r o (region_check st.regions r.context)
row st (Scan r) h t o = row_scan st r o (region_check st.regions r.context)
row st (Prewrite r) h t o = row_prewrite st r o (region_check st.regions r.context) (prewrite_errors st.cells r r.mutations r.is_pessimistic_lock) (passed_commit st.cells r.start_version r.mutations) refl
row st (Commit r) h t o = row_commit st r o (region_check st.regions r.context) (first_commit_error st.cells r r.keys)
row st (Cleanup r) h t o = row_cleanup st r o (region_check st.regions r.context) (cleanup_refusal r.key r.start_version (cell_at st.cells r.key).lock) (commit_of (cell_at st.cells r.key).commits r.start_version) refl refl
row st (BatchRollback r) h t o = row_batch_rollback st r o (region_check st.regions r.context) (first_rollback_error st.cells r.start_version r.keys) refl
row st (PessimisticRollback r) h t o = row_pessimistic_rollback st r o (region_check st.regions r.context)
row st (PessimisticLock r) h t o = row_pessimistic_lock st r t o (region_check st.regions r.context) (pessimistic_errors st.cells r) refl
row st (ResolveLock r) h t o = row_resolve st r o (region_check st.regions r.context)
row st (ScanLock r) h t o = row_scan_lock st r o (region_check st.regions r.context)
row st (TxnHeartBeat r) h t o = row_heart_beat st r o (region_check st.regions r.context) (lock_of_start r.start_version (cell_at st.cells r.primary_lock).lock) refl
row st (CheckTxnStatus r) h t o = row_status st r o (region_check st.regions r.context) (finding r (cell_at st.cells r.primary_key)) (finds r (cell_at st.cells r.primary_key))
row st (CheckSecondaryLocks r) h t o = row_secondary st r o (region_check st.regions r.context)
row st (UnsafeDestroyRange r) h t o = absurd h
row st (GetRegion r) h t o = row_same st (GetRegion r) o
row st (GetRegionById r) h t o = row_same st (GetRegionById r) o
row st (GetStore r) h t o = row_same st (GetStore r) o
row st (GetAllStores r) h t o = row_same st (GetAllStores r) o
row st (UpdateGcSafePoint r) h t o = row_same st (UpdateGcSafePoint r) o
row st (Tso r) h t o = row_same st (Tso r) o
row st (Members r) h t o = row_same st (Members r) o
