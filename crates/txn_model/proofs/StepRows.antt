-- Each row of the request table changes the cell of each key by a step that its request may make.
use Rattle.std.proofs.Common.{◌≡◌, ℕ, ◌⊎◌, inl, inr, Bool, true, false, not, ◌&&◌, ◌||◌, List, [], ◌∷◌, Option, Some, None, nat_eq, nat_lt, refl, sym, ap, ◌∙◌, subst, arith}
use Rattle.std.specs.Prelude.{if◌then◌else◌}
use Rattle.std.specs.List.{filter_map, cons_option}
use Rattle.std.proofs.lemmas.Bool.Decides.{nat_tests}
use Rattle.txn_kv.specs.declared.message.KeyError.{KeyError}
use Rattle.txn_kv.specs.declared.message.KeyError.TheVariants as errors
use Rattle.txn_kv.specs.declared.message.Mutation.{Mutation}
use Rattle.txn_kv.specs.declared.message.RegionErr.{RegionErr}
use Rattle.txn_kv.specs.declared.message.TxnInfo.{TxnInfo}
use Rattle.txn_kv.specs.declared.request.Request.{Request}
use Rattle.txn_kv.specs.declared.request.Request.TheVariants.{Get, BatchGet, Scan, Prewrite, Commit, Cleanup, BatchRollback, PessimisticRollback, PessimisticLock, ResolveLock, ScanLock, TxnHeartBeat, CheckTxnStatus, CheckSecondaryLocks, UnsafeDestroyRange, GetRegion, GetRegionById, GetStore, GetAllStores, UpdateGcSafePoint, Tso, Members}
use Rattle.txn_kv.specs.declared.request.reads.BatchGetRequest.{BatchGetRequest}
use Rattle.txn_kv.specs.declared.request.commits.BatchRollbackRequest.{BatchRollbackRequest}
use Rattle.txn_kv.specs.declared.request.locks.CheckSecondaryLocksRequest.{CheckSecondaryLocksRequest}
use Rattle.txn_kv.specs.declared.request.locks.CheckTxnStatusRequest.{CheckTxnStatusRequest}
use Rattle.txn_kv.specs.declared.request.locks.CleanupRequest.{CleanupRequest}
use Rattle.txn_kv.specs.declared.request.commits.CommitRequest.{CommitRequest}
use Rattle.txn_kv.specs.declared.request.reads.GetRequest.{GetRequest}
use Rattle.txn_kv.specs.declared.request.locks.PessimisticLockRequest.{PessimisticLockRequest}
use Rattle.txn_kv.specs.declared.request.locks.PessimisticRollbackRequest.{PessimisticRollbackRequest}
use Rattle.txn_kv.specs.declared.request.commits.PrewriteRequest.{PrewriteRequest}
use Rattle.txn_kv.specs.declared.request.locks.ResolveLockRequest.{ResolveLockRequest}
use Rattle.txn_kv.specs.declared.request.locks.ScanLockRequest.{ScanLockRequest}
use Rattle.txn_kv.specs.declared.request.reads.ScanRequest.{ScanRequest}
use Rattle.txn_kv.specs.declared.request.commits.TxnHeartBeatRequest.{TxnHeartBeatRequest}
use Rattle.txn_kv.specs.declared.request.cluster.UnsafeDestroyRangeRequest.{UnsafeDestroyRangeRequest}
use Rattle.txn_model.specs.declared.cell.Cell.{Cell}
use Rattle.txn_model.specs.declared.cell.Lock.{Lock}
use Rattle.txn_model.specs.declared.cell.Write.{Write}
use Rattle.txn_model.specs.declared.rule.Rule.TheVariants.{RollBack, RollBackMissing, ReleaseUpTo}
use Rattle.txn_model.specs.Cells.{Key, key_eq, has_key, no_cell, cell_at, changed_at, AreInOrder}
use Rattle.txn_model.specs.Commit.{commit_by, first_commit_error, committed, commit_lock}
use Rattle.txn_model.specs.Destroy.{cells_outside}
use Rattle.txn_model.specs.Locks.{has_start, is_prewrite, owns, holds, commit_of, lock_info}
use Rattle.txn_model.specs.PessimisticLock.{newest_conflict, held_conflict, pessimistic_error, pessimistic_errors, raised_lock, locked_for_update, pessimistic_lock_by}
use Rattle.txn_model.specs.Placement.{region_check}
use Rattle.txn_model.specs.Prewrite.{least_bound, prewrite_errors, passed_commit, prewrite_cell, land_cell, prewritten_cells, landed_cells, mutation_keys, one_phase_by, locking_by, prewrite_by}
use Rattle.txn_model.specs.Ranges.{in_range}
use Rattle.txn_model.specs.Read.{get_by, batch_get_by, scan_by}
use Rattle.txn_model.specs.Resolve.{infos, settled, all_settled, is_in_context, resolve_lock_by, scan_lock_by}
use Rattle.txn_model.specs.Rollback.{batch_rollback_by, first_rollback_error, cleanup_refusal, cleanup_by, pessimistic_rollback_by, released_by, is_for_update_by}
use Rattle.txn_model.specs.Settle.{rolled_back, released, unlocked, lock_of_start}
use Rattle.txn_model.specs.Status.{Finding, finding, status_cell, goes_unrecorded, check_txn_status_by, is_missing, missing_rolled_back, check_secondary_locks_by, longer_lived, with_lock, txn_heart_beat_by}
use Rattle.txn_model.specs.Status.Finding.{Mismatched, Expired, Live, IsCommitted, IsRolledBack, Nothing}
use Rattle.txn_model.specs.Steps.{has_info}
use Rattle.txn_model.specs.Store.{Store}
use Rattle.txn_model.specs.Table.{table}
use Rattle.txn_model.proofs.CellLists.{KeepsKeys, key_of_cell, cell_changed, cell_each}
use Rattle.txn_model.proofs.Folding.{prewrite_key, land_key}
use Rattle.txn_model.proofs.Keys.{same_key}
use Rattle.txn_model.proofs.Opening.{IsPlaced, IsLanded, key_placed, key_landed}
use Rattle.txn_model.proofs.Ruling.{rule_keeps_keys, status_keeps_keys}
use Rattle.txn_model.proofs.Settled.{in_region_keys}
use Rattle.txn_model.proofs.Steps.{CellStep, IsClear}
use Rattle.txn_model.proofs.Steps.CellStep.{Same, Places, Lands, Recorded, Made, Released, Held, Renewed, Destroyed}
use Rattle.txn_model.proofs.Unlocking.{commit_key_same}

-- each cell goes by a step
abbrev RowStep : Store → Request → List Cell → Type 0
RowStep st r cells = (k : Key) → CellStep st r k (cell_at st.cells k) (cell_at cells k)

row_same : (st : Store) (r : Request) → RowStep st r st.cells
row_same st r k = Same

if_cell : (P : Cell → Type 0) (b : Bool) (c d : Cell) → P c → (b ≡ true → P d) → P (if b then d else c)
if_cell P true c d h f = f refl
if_cell P false c d h f = h

row_changed : (st : Store) (r : Request) (ks : List Key) (f : Cell → Cell) → KeepsKeys f → AreInOrder st.cells → ((k : Key) → has_key ks k ≡ true → CellStep st r k (cell_at st.cells k) (f (cell_at st.cells k))) → RowStep st r (changed_at ks f st.cells)
row_changed st r ks f keeps o h k = subst (CellStep st r k (cell_at st.cells k)) (sym (cell_changed ks f keeps st.cells o k)) (if_cell (CellStep st r k (cell_at st.cells k)) (has_key ks k) (cell_at st.cells k) (f (cell_at st.cells k)) Same (h k))

-- the only key of a list
pub only_key : (p k : Key) → has_key (p ∷ []) k ≡ true → k ≡ p
only_key p k h = by (key_eq p k) refl h
  where
    by : (b : Bool) → key_eq p k ≡ b → (b || false) ≡ true → k ≡ p
    by true e g = sym (same_key p k e)
    by false e g = absurd (cc)

-- Prewrite

module _ (st : Store) (r : PrewriteRequest) (o : AreInOrder st.cells) (free : prewrite_errors st.cells r r.mutations r.is_pessimistic_lock ≡ []) where
  row_locks : r.try_one_pc ≡ false → RowStep st (Prewrite r) (prewritten_cells st r)
  row_locks later = row_changed st (Prewrite r) (mutation_keys r.mutations) (prewrite_cell r (least_bound st r) r.mutations) (prewrite_key r (least_bound st r) r.mutations) o (λ k a. by k a (key_placed r (least_bound st r) st.cells free k a))
    where
      by : (k : Key) → has_key (mutation_keys r.mutations) k ≡ true → (prewrite_cell r (least_bound st r) r.mutations (cell_at st.cells k) ≡ cell_at st.cells k) ⊎ IsPlaced r (cell_at st.cells k) (prewrite_cell r (least_bound st r) r.mutations (cell_at st.cells k)) → CellStep st (Prewrite r) k (cell_at st.cells k) (prewrite_cell r (least_bound st r) r.mutations (cell_at st.cells k))
      by k a (inl e) = subst (CellStep st (Prewrite r) k (cell_at st.cells k)) (sym e) Same
      by k a (inr p) = subst (CellStep st (Prewrite r) k (cell_at st.cells k)) (sym p.so) (Places p.lock p.kind p.opened (p.start, a, later))

  row_lands : r.try_one_pc ≡ true → RowStep st (Prewrite r) (landed_cells st r)
  row_lands once = row_changed st (Prewrite r) (mutation_keys r.mutations) (land_cell r (least_bound st r) r.mutations) (land_key r (least_bound st r) r.mutations) o (λ k a. by k a (key_landed r (least_bound st r) st.cells free k a once))
    where
      by : (k : Key) → has_key (mutation_keys r.mutations) k ≡ true → (land_cell r (least_bound st r) r.mutations (cell_at st.cells k) ≡ cell_at st.cells k) ⊎ IsLanded r (least_bound st r) (cell_at st.cells k) (land_cell r (least_bound st r) r.mutations (cell_at st.cells k)) → CellStep st (Prewrite r) k (cell_at st.cells k) (land_cell r (least_bound st r) r.mutations (cell_at st.cells k))
      by k a (inl e) = subst (CellStep st (Prewrite r) k (cell_at st.cells k)) (sym e) Same
      by k a (inr p) = subst (CellStep st (Prewrite r) k (cell_at st.cells k)) (sym p.so) (Lands p.lock (least_bound st r) p.opened p.unowned (p.start, refl, a, once))

pub row_prewrite : (st : Store) (r : PrewriteRequest) → AreInOrder st.cells → (e : Option RegionErr) (es : List KeyError) (w : Option Write) → prewrite_errors st.cells r r.mutations r.is_pessimistic_lock ≡ es → RowStep st (Prewrite r) (prewrite_by e es w st r).store.cells
row_prewrite st r o (Some e) es w h = row_same st (Prewrite r)
row_prewrite st r o None (x ∷ xs) w h = row_same st (Prewrite r)
row_prewrite st r o None [] w h = by r.try_one_pc refl w
  where
    by : (b : Bool) → r.try_one_pc ≡ b → (v : Option Write) → RowStep st (Prewrite r) (if b then one_phase_by v st r else locking_by st r).store.cells
    by true e (Some v) = row_same st (Prewrite r)
    by true e None = row_lands st r o h e
    by false e v = row_locks st r o h e

-- PessimisticLock

pub raised_kind : (r : PessimisticLockRequest) (o : Option Lock) → is_prewrite (raised_lock r o).kind ≡ false
raised_kind r None = refl
raised_kind r (Some l) = refl

raised_start : (r : PessimisticLockRequest) (o : Option Lock) → (raised_lock r o).start ≡ r.start_version
raised_start r None = refl
raised_start r (Some l) = refl

clear_cell : (r : PessimisticLockRequest) (m : Mutation) (c : Cell) → pessimistic_error r m c ≡ None → IsClear c r.start_version
clear_cell r m c h = by_rolled (has_start c.rolled r.start_version) h
  where
    by_own : (l n : Lock) → l ≡ n → (x y : Bool) → nat_eq l.start r.start_version ≡ x → is_prewrite l.kind ≡ y → (if x then (if y then Some (errors.Abort m.key r.start_version 0) else newest_conflict r m c) else Some (errors.Locked (lock_info m.key l))) ≡ None → (n.start ≡ r.start_version) × (is_prewrite n.kind ≡ false)
    by_own l n e true true f y g = absurd (cc)
    by_own l n e true false f y g = (subst (λ (q : Lock). q.start ≡ r.start_version) e (grind (arith, nat_tests)), subst (λ (q : Lock). is_prewrite q.kind ≡ false) e y)
    by_own l n e false y f z g = absurd (cc)

    by_lock : (o : Option Lock) → c.lock ≡ o → held_conflict r m c o ≡ None → IsClear c r.start_version
    by_lock None e g n f = absurd (cc)
    by_lock (Some l) e g n f = by_own l n (cc) (nat_eq l.start r.start_version) (is_prewrite l.kind) refl refl g

    by_rolled : (b : Bool) → (if b then Some (errors.Abort m.key r.start_version 0) else held_conflict r m c c.lock) ≡ None → IsClear c r.start_version
    by_rolled true g = absurd (cc)
    by_rolled false g = by_lock c.lock refl g

clear_key : (cs : List Cell) (r : PessimisticLockRequest) (ms : List Mutation) (k : Key) → filter_map (λ m. pessimistic_error r m (cell_at cs m.key)) ms ≡ [] → has_key (mutation_keys ms) k ≡ true → IsClear (cell_at cs k) r.start_version
clear_key cs r [] k h g = absurd (cc)
clear_key cs r (m ∷ ms) k h g = by_error (λ e f. clear_key cs r ms k e f) (pessimistic_error r m (cell_at cs m.key)) (key_eq m.key k) refl refl h g
  where
    by_error : (filter_map (λ m. pessimistic_error r m (cell_at cs m.key)) ms ≡ [] → has_key (mutation_keys ms) k ≡ true → IsClear (cell_at cs k) r.start_version) → (o : Option KeyError) (b : Bool) → pessimistic_error r m (cell_at cs m.key) ≡ o → key_eq m.key k ≡ b → cons_option o (filter_map (λ m. pessimistic_error r m (cell_at cs m.key)) ms) ≡ [] → (b || has_key (mutation_keys ms) k) ≡ true → IsClear (cell_at cs k) r.start_version
    by_error rest (Some x) b e f u v = absurd (cc)
    by_error rest None true e f u v = subst (λ q. IsClear (cell_at cs q) r.start_version) (same_key m.key k f) (clear_cell r m (cell_at cs m.key) e)
    by_error rest None false e f u v = rest u v

row_pessimistic_lock : (st : Store) (r : PessimisticLockRequest) → AreInOrder st.cells → (e : Option RegionErr) (es : List KeyError) → pessimistic_errors st.cells r ≡ es → RowStep st (PessimisticLock r) (pessimistic_lock_by e es st r).store.cells
row_pessimistic_lock st r o (Some e) es h = row_same st (PessimisticLock r)
row_pessimistic_lock st r o None (x ∷ xs) h = row_same st (PessimisticLock r)
row_pessimistic_lock st r o None [] h = row_changed st (PessimisticLock r) (mutation_keys r.mutations) (locked_for_update r) (λ c. refl) o by
  where
    by : (k : Key) → has_key (mutation_keys r.mutations) k ≡ true → CellStep st (PessimisticLock r) k (cell_at st.cells k) (locked_for_update r (cell_at st.cells k))
    by k a =
        let c = cell_at st.cells k in
        let start = raised_start r c.lock in
        Held (raised_lock r c.lock) (raised_kind r c.lock) (subst (IsClear c) (sym start) (clear_key st.cells r r.mutations k h a)) (start, a)

-- CheckTxnStatus

resolving : (r : CheckTxnStatusRequest) (l : Lock) → goes_unrecorded r l ≡ true → r.resolving_pessimistic_lock ≡ true
resolving r l h = by r.resolving_pessimistic_lock h
  where
    by : (b : Bool) → (b && not (is_prewrite l.kind)) ≡ true → b ≡ true
    by true g = refl
    by false g = absurd (cc)

row_found : (st : Store) (r : CheckTxnStatusRequest) (k : Key) (c : Cell) → k ≡ r.primary_key → (f : Finding) → CellStep st (CheckTxnStatus r) k c (status_cell r f c)
row_found st r k c e (Mismatched l) = Same
row_found st r k c e (Expired l) = by (goes_unrecorded r l) refl
  where
    by : (b : Bool) → goes_unrecorded r l ≡ b → CellStep st (CheckTxnStatus r) k c (if b then released r.lock_ts c else rolled_back r.lock_ts c)
    by true g = Released r.lock_ts (refl, e, resolving r l g)
    by false g = Recorded r.lock_ts (refl, e)
row_found st r k c e (Live l) = Same
row_found st r k c e (IsCommitted w) = Same
row_found st r k c e IsRolledBack = Same
row_found st r k c e Nothing = by (r.rollback_if_not_exist && not r.resolving_pessimistic_lock)
  where
    by : (b : Bool) → CellStep st (CheckTxnStatus r) k c (if b then rolled_back r.lock_ts c else c)
    by true = Recorded r.lock_ts (refl, e)
    by false = Same

-- ResolveLock

owner_holds : (o : Option Lock) (s : ℕ) → owns o s ≡ true → holds o s ≡ true
owner_holds None s h = absurd (cc)
owner_holds (Some l) s h = grind (arith, nat_tests)

not_held : (i : TxnInfo) (c : Cell) → holds c.lock i.txn ≡ false → settled i c ≡ c
not_held i c h = by (owns c.lock i.txn) refl
  where
    by : (a : Bool) → owns c.lock i.txn ≡ a → (if a then (if nat_lt 0 i.status then committed i.txn i.status c else rolled_back i.txn c) else (if a then c else unlocked i.txn c)) ≡ c
    by true e = absurd (let f = owner_holds c.lock i.txn e in cc)
    by false e = rw h refl

none_settled : (is : List TxnInfo) (c : Cell) → c.lock ≡ None → all_settled is c ≡ c
none_settled [] c h = refl
none_settled (i ∷ is) c h =
    let same : settled i c ≡ c = not_held i c (rw h refl) in
    ap (all_settled is) same ∙ none_settled is c h

commit_unlocks : (s n : ℕ) (c : Cell) → owns c.lock s ≡ true → (committed s n c).lock ≡ None
commit_unlocks s n c h = by c.lock h
  where
    by : (o : Option Lock) → owns o s ≡ true → (commit_lock s n o c).lock ≡ None
    by None e = absurd (cc)
    by (Some l) e = rw e refl

held_unlocks : (i : TxnInfo) (c : Cell) → holds c.lock i.txn ≡ true → (settled i c).lock ≡ None
held_unlocks i c h = by (owns c.lock i.txn) (nat_lt 0 i.status) refl
  where
    by : (a b : Bool) → owns c.lock i.txn ≡ a → (if a then (if b then committed i.txn i.status c else rolled_back i.txn c) else (if a then c else unlocked i.txn c)).lock ≡ None
    by true true e = commit_unlocks i.txn i.status c e
    by true false e = rw h refl
    by false b e = rw h refl

module _ (st : Store) (r : ResolveLockRequest) (k : Key) (here : is_in_context st.regions r.context k ≡ true) where
  one_settled : (i : TxnInfo) (c : Cell) → has_info (infos r) i.txn i.status ≡ true → CellStep st (ResolveLock r) k c (settled i c)
  one_settled i c a = by (owns c.lock i.txn) (nat_lt 0 i.status) refl
    where
      by : (x y : Bool) → nat_lt 0 i.status ≡ y → CellStep st (ResolveLock r) k c (if x then (if y then committed i.txn i.status c else rolled_back i.txn c) else released i.txn c)
      by true true f = Made i.txn i.status (a, grind (arith, nat_tests), here)
      by true false f = let zero : i.status ≡ 0 = grind (arith, nat_tests) in Recorded i.txn (subst (λ n. has_info (infos r) i.txn n ≡ true) zero a, here)
      by false y f = Released i.txn ((i.status, a), here)

  -- the first that names the lock's start settles it, and the others leave the cell
  settle_step : (is : List TxnInfo) (c : Cell) → ((s n : ℕ) → has_info is s n ≡ true → has_info (infos r) s n ≡ true) → CellStep st (ResolveLock r) k c (all_settled is c)
  settle_step [] c a = Same
  settle_step (i ∷ is) c a = by (settle_step is c (λ s n h. a s n (later s n h))) (holds c.lock i.txn) refl
    where
      later : (s n : ℕ) → has_info is s n ≡ true → (nat_eq i.txn s && nat_eq i.status n || has_info is s n) ≡ true
      later s n h = on (nat_eq i.txn s && nat_eq i.status n)
        where
          on : (b : Bool) → (b || has_info is s n) ≡ true
          on true = refl
          on false = h

      first : has_info (i ∷ is) i.txn i.status ≡ true
      first = grind (arith, nat_tests)

      by : CellStep st (ResolveLock r) k c (all_settled is c) → (b : Bool) → holds c.lock i.txn ≡ b → CellStep st (ResolveLock r) k c (all_settled is (settled i c))
      by rest true e = subst (CellStep st (ResolveLock r) k c) (sym (none_settled is (settled i c) (held_unlocks i c e))) (one_settled i c (a i.txn i.status first))
      by rest false e = subst (λ d. CellStep st (ResolveLock r) k c (all_settled is d)) (sym (not_held i c e)) rest

abbrev pub in_region : Store → ResolveLockRequest → Cell → Cell
in_region st r c = if is_in_context st.regions r.context c.key then all_settled (infos r) c else c

pub region_none : (st : Store) (r : ResolveLockRequest) (k : Key) → in_region st r (no_cell k) ≡ no_cell k
region_none st r k = by (is_in_context st.regions r.context k)
  where
    by : (b : Bool) → (if b then all_settled (infos r) (no_cell k) else no_cell k) ≡ no_cell k
    by true = none_settled (infos r) (no_cell k) refl
    by false = refl

row_resolve : (st : Store) (r : ResolveLockRequest) → AreInOrder st.cells → (e : Option RegionErr) → RowStep st (ResolveLock r) (resolve_lock_by e st r).store.cells
row_resolve st r o (Some e) = row_same st (ResolveLock r)
row_resolve st r o None = λ k.
    let c = cell_at st.cells k in
    subst (CellStep st (ResolveLock r) k c) (sym (cell_each (in_region st r) (in_region_keys st.regions r) st.cells k o (λ h. region_none st r k)))
    (if_cell (CellStep st (ResolveLock r) k c) (is_in_context st.regions r.context c.key) c (all_settled (infos r) c) Same
    (λ e. settle_step st r k (subst (λ q. is_in_context st.regions r.context q ≡ true) (key_of_cell st.cells k) e) (infos r) c (λ s n h. h)))

-- The others.

row_get : (st : Store) (r : GetRequest) (e : Option RegionErr) → RowStep st (Get r) (get_by e st r).store.cells
row_get st r (Some e) = row_same st (Get r)
row_get st r None = row_same st (Get r)

row_batch_get : (st : Store) (r : BatchGetRequest) (e : Option RegionErr) → RowStep st (BatchGet r) (batch_get_by e st r).store.cells
row_batch_get st r (Some e) = row_same st (BatchGet r)
row_batch_get st r None = row_same st (BatchGet r)

row_scan : (st : Store) (r : ScanRequest) (e : Option RegionErr) → RowStep st (Scan r) (scan_by e st r).store.cells
row_scan st r (Some e) = row_same st (Scan r)
row_scan st r None = row_same st (Scan r)

row_scan_lock : (st : Store) (r : ScanLockRequest) (e : Option RegionErr) → RowStep st (ScanLock r) (scan_lock_by e st r).store.cells
row_scan_lock st r (Some e) = row_same st (ScanLock r)
row_scan_lock st r None = row_same st (ScanLock r)

row_commit : (st : Store) (r : CommitRequest) → AreInOrder st.cells → (e : Option RegionErr) (x : Option KeyError) → RowStep st (Commit r) (commit_by e x st r).store.cells
row_commit st r o (Some e) x = row_same st (Commit r)
row_commit st r o None (Some x) = row_same st (Commit r)
row_commit st r o None None = row_changed st (Commit r) r.keys (committed r.start_version r.commit_version) (commit_key_same r.start_version r.commit_version) o (λ k a. Made r.start_version r.commit_version (refl, refl, a))

row_batch_rollback : (st : Store) (r : BatchRollbackRequest) → AreInOrder st.cells → (e : Option RegionErr) (x : Option KeyError) → RowStep st (BatchRollback r) (batch_rollback_by e x st r).store.cells
row_batch_rollback st r o (Some e) x = row_same st (BatchRollback r)
row_batch_rollback st r o None (Some x) = row_same st (BatchRollback r)
row_batch_rollback st r o None None = row_changed st (BatchRollback r) r.keys (rolled_back r.start_version) (rule_keeps_keys (RollBack r.start_version)) o (λ k a. Recorded r.start_version (refl, a))

row_cleanup : (st : Store) (r : CleanupRequest) → AreInOrder st.cells → (e : Option RegionErr) (x : Option KeyError) (w : Option Write) → RowStep st (Cleanup r) (cleanup_by e x w st r).store.cells
row_cleanup st r o (Some e) x w = row_same st (Cleanup r)
row_cleanup st r o None (Some x) w = row_same st (Cleanup r)
row_cleanup st r o None None (Some w) = row_same st (Cleanup r)
row_cleanup st r o None None None = row_changed st (Cleanup r) (r.key ∷ []) (rolled_back r.start_version) (rule_keeps_keys (RollBack r.start_version)) o (λ k a. Recorded r.start_version (refl, only_key r.key k a))

row_pessimistic_rollback : (st : Store) (r : PessimisticRollbackRequest) → AreInOrder st.cells → (e : Option RegionErr) → RowStep st (PessimisticRollback r) (pessimistic_rollback_by e st r).store.cells
row_pessimistic_rollback st r o (Some e) = row_same st (PessimisticRollback r)
row_pessimistic_rollback st r o None = row_changed st (PessimisticRollback r) r.keys (released_by r.start_version r.for_update_ts) (rule_keeps_keys (ReleaseUpTo r.start_version r.for_update_ts)) o
    (λ k a. if_cell (CellStep st (PessimisticRollback r) k (cell_at st.cells k)) (is_for_update_by r.for_update_ts (cell_at st.cells k).lock) (cell_at st.cells k) (released r.start_version (cell_at st.cells k)) Same (λ e. Released r.start_version (refl, a)))

pub lock_found : (s : ℕ) (o : Option Lock) (l : Lock) → lock_of_start s o ≡ Some l → o ≡ Some l
lock_found s None l h = absurd (cc)
lock_found s (Some m) l h = by (nat_eq m.start s) h
  where
    by : (b : Bool) → (if b then Some m else None) ≡ Some l → Some m ≡ Some l
    by true e = e
    by false e = absurd (cc)

row_heart_beat : (st : Store) (r : TxnHeartBeatRequest) → AreInOrder st.cells → (e : Option RegionErr) (l : Option Lock) → lock_of_start r.start_version (cell_at st.cells r.primary_lock).lock ≡ l → RowStep st (TxnHeartBeat r) (txn_heart_beat_by e l st r).store.cells
row_heart_beat st r o (Some e) l h = row_same st (TxnHeartBeat r)
row_heart_beat st r o None None h = row_same st (TxnHeartBeat r)
row_heart_beat st r o None (Some l) h = row_changed st (TxnHeartBeat r) (r.primary_lock ∷ []) (with_lock (longer_lived r.advise_lock_ttl l)) (λ c. refl) o
    (λ k a. Renewed l r.advise_lock_ttl (subst (λ q. (cell_at st.cells q).lock ≡ Some l) (sym (only_key r.primary_lock k a)) (lock_found r.start_version (cell_at st.cells r.primary_lock).lock l h)))

row_status : (st : Store) (r : CheckTxnStatusRequest) → AreInOrder st.cells → (e : Option RegionErr) (f : Finding) → RowStep st (CheckTxnStatus r) (check_txn_status_by e f st r).store.cells
row_status st r o (Some e) f = row_same st (CheckTxnStatus r)
row_status st r o None f = row_changed st (CheckTxnStatus r) (r.primary_key ∷ []) (status_cell r f) (status_keeps_keys r f) o (λ k a. row_found st r k (cell_at st.cells k) (only_key r.primary_key k a) f)

row_secondary : (st : Store) (r : CheckSecondaryLocksRequest) → AreInOrder st.cells → (e : Option RegionErr) → RowStep st (CheckSecondaryLocks r) (check_secondary_locks_by e st r).store.cells
row_secondary st r o (Some e) = row_same st (CheckSecondaryLocks r)
row_secondary st r o None = row_changed st (CheckSecondaryLocks r) r.keys (missing_rolled_back r.start_version) (rule_keeps_keys (RollBackMissing r.start_version)) o
    (λ k a. if_cell (CellStep st (CheckSecondaryLocks r) k (cell_at st.cells k)) (is_missing r.start_version (cell_at st.cells k)) (cell_at st.cells k) (rolled_back r.start_version (cell_at st.cells k)) Same (λ e. Recorded r.start_version (refl, a)))

-- the cell of a key outside a range stays, and one in it goes
pub outside_at : (low high : Key) (cs : List Cell) (k : Key) → cell_at (cells_outside low high cs) k ≡ (if in_range low high k then no_cell k else cell_at cs k)
outside_at low high [] k = by (in_range low high k)
  where
    by : (b : Bool) → no_cell k ≡ (if b then no_cell k else no_cell k)
    by true = refl
    by false = refl
outside_at low high (c ∷ cs) k = by (in_range low high c.key) (key_eq c.key k) refl refl (outside_at low high cs k)
  where
    by : (a b : Bool) → in_range low high c.key ≡ a → key_eq c.key k ≡ b → cell_at (cells_outside low high cs) k ≡ (if in_range low high k then no_cell k else cell_at cs k) → cell_at (if not a then c ∷ cells_outside low high cs else cells_outside low high cs) k ≡ (if in_range low high k then no_cell k else (if b then c else cell_at cs k))
    by true true e f rest =
        let here : in_range low high k ≡ true = subst (λ q. in_range low high q ≡ true) (same_key c.key k f) e in
        rest ∙ rw here refl
    by true false e f rest = rest
    by false true e f rest =
        let here : in_range low high k ≡ false = subst (λ q. in_range low high q ≡ false) (same_key c.key k f) e in
        rw (f, here) refl
    by false false e f rest = rw f rest

row_destroy : (st : Store) (r : UnsafeDestroyRangeRequest) → RowStep st (UnsafeDestroyRange r) (cells_outside r.start_key r.end_key st.cells)
row_destroy st r k = subst (CellStep st (UnsafeDestroyRange r) k (cell_at st.cells k)) (sym (outside_at r.start_key r.end_key st.cells k)) (if_cell (CellStep st (UnsafeDestroyRange r) k (cell_at st.cells k)) (in_range r.start_key r.end_key k) (cell_at st.cells k) (no_cell k) Same (λ e. Destroyed e))

pub row : (st : Store) (r : Request) → AreInOrder st.cells → RowStep st r (table st r).store.cells
row st (Get r) o = row_get st r (region_check st.regions r.context)
row st (BatchGet r) o = row_batch_get st r (region_check st.regions r.context)
row st (Scan r) o = row_scan st r (region_check st.regions r.context)
row st (Prewrite r) o = row_prewrite st r o (region_check st.regions r.context) (prewrite_errors st.cells r r.mutations r.is_pessimistic_lock) (passed_commit st.cells r.start_version r.mutations) refl
row st (Commit r) o = row_commit st r o (region_check st.regions r.context) (first_commit_error st.cells r r.keys)
row st (Cleanup r) o = row_cleanup st r o (region_check st.regions r.context) (cleanup_refusal r.key r.start_version (cell_at st.cells r.key).lock) (commit_of (cell_at st.cells r.key).commits r.start_version)
row st (BatchRollback r) o = row_batch_rollback st r o (region_check st.regions r.context) (first_rollback_error st.cells r.start_version r.keys)
row st (PessimisticRollback r) o = row_pessimistic_rollback st r o (region_check st.regions r.context)
row st (PessimisticLock r) o = row_pessimistic_lock st r o (region_check st.regions r.context) (pessimistic_errors st.cells r) refl
row st (ResolveLock r) o = row_resolve st r o (region_check st.regions r.context)
row st (ScanLock r) o = row_scan_lock st r (region_check st.regions r.context)
row st (TxnHeartBeat r) o = row_heart_beat st r o (region_check st.regions r.context) (lock_of_start r.start_version (cell_at st.cells r.primary_lock).lock) refl
row st (CheckTxnStatus r) o = row_status st r o (region_check st.regions r.context) (finding r (cell_at st.cells r.primary_key))
row st (CheckSecondaryLocks r) o = row_secondary st r o (region_check st.regions r.context)
row st (UnsafeDestroyRange r) o = row_destroy st r
row st (GetRegion r) o = row_same st (GetRegion r)
row st (GetRegionById r) o = row_same st (GetRegionById r)
row st (GetStore r) o = row_same st (GetStore r)
row st (GetAllStores r) o = row_same st (GetAllStores r)
row st (UpdateGcSafePoint r) o = row_same st (UpdateGcSafePoint r)
row st (Tso r) o = row_same st (Tso r)
row st (Members r) o = row_same st (Members r)
