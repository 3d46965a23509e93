-- What a reply says of the phases and bounds, as it is given and from then on.
use Rattle.std.proofs.Common.{◌≡◌, ℕ, ◌+◌, ◌-◌, ◌/◌, ◌*◌, ◌%◌, ◌^◌, ◌<◌, ◌≤◌, ◌⊎◌, inl, inr, Bool, true, false, not, ◌&&◌, ◌||◌, List, [], ◌∷◌, Option, Some, None, nat_eq, nat_lt, refl, sym, ap, ◌∙◌, subst, arith}
use Rattle.std.specs.Prelude.{if◌then◌else◌, is_some}
use Rattle.std.proofs.lemmas.Bool.Decides.{nat_tests}
use Rattle.txn_kv.specs.Timestamp.{version_of, timestamp_of}
use Rattle.txn_kv.specs.Versions.{version_of-timestamp_of}
use Rattle.txn_kv.specs.declared.message.KeyError.{KeyError}
use Rattle.txn_kv.specs.declared.message.RegionErr.{RegionErr}
use Rattle.txn_kv.specs.declared.request.Request.{Request}
use Rattle.txn_kv.specs.declared.request.Request.TheVariants.{Prewrite, Commit, Cleanup, BatchRollback, CheckTxnStatus, CheckSecondaryLocks, Tso}
use Rattle.txn_kv.specs.declared.request.commits.BatchRollbackRequest.{BatchRollbackRequest}
use Rattle.txn_kv.specs.declared.request.locks.CleanupRequest.{CleanupRequest}
use Rattle.txn_kv.specs.declared.request.commits.CommitRequest.{CommitRequest}
use Rattle.txn_kv.specs.declared.request.locks.CheckTxnStatusRequest.{CheckTxnStatusRequest}
use Rattle.txn_kv.specs.declared.request.locks.CheckSecondaryLocksRequest.{CheckSecondaryLocksRequest}
use Rattle.txn_kv.specs.declared.request.commits.PrewriteRequest.{PrewriteRequest}
use Rattle.txn_kv.specs.declared.request.cluster.TsoRequest.{TsoRequest}
use Rattle.txn_kv.specs.declared.reply.Reply.{Reply}
use Rattle.txn_kv.specs.declared.reply.commits.PrewriteResponse.{PrewriteResponse}
use Rattle.txn_kv.specs.declared.reply.cluster.TsoResponse.{TsoResponse}
use Rattle.txn_history.specs.Busy.{busy_reply}
use Rattle.txn_history.specs.Licence.{IsWithoutError, GivesTimestamp, TellsStatus}
use Rattle.txn_history.specs.Plan.{Key, Content, Plan, has_key, LocksKey, Way}
use Rattle.txn_model.specs.declared.cell.Cell.{Cell}
use Rattle.txn_model.specs.declared.cell.Lock.{Lock}
use Rattle.txn_model.specs.declared.cell.Write.{Write}
use Rattle.txn_model.specs.Cells.{key_eq, cell_at, AreInOrder}
use Rattle.txn_model.specs.Commit.{commit_by, first_commit_error, commit_error, commit_conflict, uncommitted, commit_lock, committed}
use Rattle.txn_model.specs.Locks.{has_start, is_prewrite, owns, commit_of, or_earlier}
use Rattle.txn_model.specs.Placement.{region_check, first_from, next_timestamp, last_timestamp}
use Rattle.txn_model.specs.Rollback.{batch_rollback_by, first_rollback_error, cleanup_refusal, cleanup_by}
use Rattle.txn_model.specs.Settle.{rolled_back, released}
use Rattle.txn_model.specs.Status.{Finding, status_cell, status_reply, status_told, no_status, goes_unrecorded, check_txn_status_by, is_missing, missing_rolled_back, any_missing, first_commit, timestamp_or_0, check_secondary_locks_by, finding}
use Rattle.txn_model.specs.Status.Finding.{Mismatched, Expired, Live, IsCommitted as FoundCommit, IsRolledBack as FoundRollback, Nothing}
use Rattle.txn_model.specs.Store.{Store}
use Rattle.txn_model.proofs.CellLists.{cell_changed}
use Rattle.txn_model.proofs.Keys.{same_key, key_itself}
use Rattle.txn_history.specs.Plan.Way.{TwoPhases, Spread}
use Rattle.txn_model.specs.Table.{table}
use Rattle.txn_law.specs.Whole.{content}
use Rattle.txn_law.proofs.Phases.{Phase, phase, IsSound, commit_of_with, has_with_start}
use Rattle.txn_law.proofs.Phases.Phase.{Locked, Committed, RolledBack}
use Rattle.txn_law.proofs.Coherent.{IsDecidedAt, IsHeld}
use Rattle.txn_law.proofs.Spread.{IsSettled, ToldBound}
use Rattle.txn_law.proofs.Settling.{commit_keeps}
use Rattle.txn_law.proofs.Rows.{FindsIn, finds, rolled_keeps, status_keeps, missing_keeps}
use Rattle.txn_kv.specs.declared.message.Action.TheVariants as actions
use Rattle.txn_kv.specs.declared.message.KeyError.TheVariants as errors
use Rattle.txn_kv.specs.declared.reply.Reply.TheVariants as reply

abbrev pub phases : Store → ℕ → Key → Phase
phases st s k = phase (cell_at st.cells k) s

abbrev pub IsCommitted : Phase → Type 0
IsCommitted (Committed c x) = Unit {0}
IsCommitted _ = ⊥

-- the decision, in either way
abbrev pub DecidedIn : Plan → Way → (Key → Phase) → (Key → Option ℕ) → ℕ → Type 0
DecidedIn plan TwoPhases f b c = IsDecidedAt plan f c
DecidedIn plan (Spread ks) f b c = IsSettled plan.writes b c

abbrev pub DecidedBy : Plan → (Key → Phase) → (Key → Option ℕ) → ℕ → Type 0
DecidedBy plan f b c = DecidedIn plan plan.way f b c

-- what a Prewrite that locks says of a key: it is held, or bounds were told
abbrev pub HeldIn : Plan → Way → (Key → Phase) → (Key → Option ℕ) → PrewriteRequest → ℕ → Key → Type 0
HeldIn plan TwoPhases f b r n k = IsHeld plan f k
HeldIn plan (Spread ks) f b r n k = ToldBound plan.writes b (LocksKey r.mutations) n

-- a start is decided at a key, at c or for 0 rolled back
abbrev pub Stands : Store → Key → ℕ → ℕ → Type 0
Stands st p s c = ((c ≡ 0) × (phases st s p ≡ RolledBack)) ⊎ ((y : Content) × (phases st s p ≡ Committed c y))

abbrev pub PrewriteMeans : Plan → (Key → Phase) → (Key → Option ℕ) → PrewriteRequest → PrewriteResponse → Type 0
PrewriteMeans plan f b r o = (r.try_one_pc ≡ true → DecidedBy plan f b o.one_pc_commit_ts × ((k : Key) → LocksKey r.mutations k → IsCommitted (f k))) × (r.try_one_pc ≡ false → (k : Key) → LocksKey r.mutations k → HeldIn plan plan.way f b r o.min_commit_ts k)

abbrev pub Means : (ℕ → Plan) → Store → (ℕ → Key → Option ℕ) → Request → Reply → Type 0
Means plans st b (Prewrite r) (reply.Prewrite o) = IsWithoutError (reply.Prewrite o) → PrewriteMeans (plans r.start_version) (phases st r.start_version) (b r.start_version) r o
Means plans st b (Commit r) (reply.Commit o) = IsWithoutError (reply.Commit o) → (k : Key) → has_key r.keys k ≡ true → IsCommitted (phases st r.start_version k)
Means plans st b (BatchRollback r) (reply.BatchRollback o) = IsWithoutError (reply.BatchRollback o) → (k : Key) → has_key r.keys k ≡ true → phases st r.start_version k ≡ RolledBack
Means plans st b (Cleanup r) (reply.Cleanup o) = IsWithoutError (reply.Cleanup o) → Stands st r.key r.start_version o.commit_version
Means plans st b (CheckTxnStatus r) (reply.CheckTxnStatus o) = (c : ℕ) → TellsStatus o c → (0 < c) ⊎ (r.resolving_pessimistic_lock ≡ false) → Stands st r.primary_key r.lock_ts c
Means plans st b (CheckSecondaryLocks r) (reply.CheckSecondaryLocks o) = (0 < o.commit_ts → (k : Key) × (y : Content) × (phases st r.start_version k ≡ Committed o.commit_ts y)) × (o.missing ≡ true → (k : Key) × (has_key r.keys k ≡ true) × (phases st r.start_version k ≡ RolledBack))
Means plans st b (Tso r) (reply.Tso o) = (c : ℕ) → GivesTimestamp o c → (0 < c) × (c ≤ st.last)
Means plans st b _ _ = Unit {0}

pub changed_cell : (st new : Store) (ks : List Key) (f : Cell → Cell) (k : Key) → cell_at new.cells k ≡ (if has_key ks k then f (cell_at st.cells k) else cell_at st.cells k) → has_key ks k ≡ true → cell_at new.cells k ≡ f (cell_at st.cells k)
changed_cell st new ks f k e h = rw h at e

one_key : (p : Key) → has_key (p ∷ []) p ≡ true
one_key p = rw (key_itself p) refl

rolls_now : (s : ℕ) (c : Cell) → phase (rolled_back s c) s ≡ RolledBack
rolls_now s c = let e = has_with_start s c.rolled s in grind (arith, nat_tests)

rolled_phase : (c : Cell) (s : ℕ) → has_start c.rolled s ≡ true → phase c s ≡ RolledBack
rolled_phase c s e = grind arith

pub committed_phase : (c : Cell) (s : ℕ) (w : Write) → IsSound c → commit_of c.commits s ≡ Some w → phase c s ≡ Committed w.commit (content w.kind w.value)
committed_phase c s w i e = grind (arith, i.rolled s)

pub lock_is_phase : (c : Cell) (l : Lock) → IsSound c → c.lock ≡ Some l → is_prewrite l.kind ≡ true → phase c l.start ≡ Locked l.primary (content l.kind l.value)
lock_is_phase c l i e k = grind (arith, nat_tests, i.lock l.start)

-- Commit

commits_now : (r : CommitRequest) (k : Key) (c : Cell) → IsSound c → commit_error r k c ≡ None → IsCommitted (phase (committed r.start_version r.commit_version c) r.start_version)
commits_now r k c i h = by_lock c.lock refl h
  where
    by_commit : (o : Option Write) → commit_of c.commits r.start_version ≡ o → (if is_some o then None else Some (errors.TxnLockNotFound k)) ≡ None → IsCommitted (phase c r.start_version)
    by_commit None e g = absurd (cc)
    by_commit (Some w) e g = grind (arith, nat_tests, i.rolled r.start_version)

    by_lock : (o : Option Lock) → c.lock ≡ o → commit_conflict r k c o ≡ None → IsCommitted (phase (committed r.start_version r.commit_version c) r.start_version)
    by_lock None e g = subst (λ d. IsCommitted (phase d r.start_version)) (sym (ap (λ o. commit_lock r.start_version r.commit_version o c) e)) (by_commit (commit_of c.commits r.start_version) refl g)
    by_lock (Some l) e g = by_own (nat_eq l.start r.start_version && is_prewrite l.kind) refl g
      where
        by_own : (b : Bool) → (nat_eq l.start r.start_version && is_prewrite l.kind) ≡ b → (if b then (if nat_lt r.commit_version l.min_commit then Some (errors.CommitTsExpired k l.min_commit) else None) else uncommitted r k c) ≡ None → IsCommitted (phase (committed r.start_version r.commit_version c) r.start_version)
        by_own true f u = grind (arith, nat_tests, commit_of_with, i.lock r.start_version)
        by_own false f u =
            let same : commit_lock r.start_version r.commit_version (Some l) c ≡ c = rw f refl in
            subst (λ d. IsCommitted (phase d r.start_version)) (sym (ap (λ o. commit_lock r.start_version r.commit_version o c) e ∙ same)) (by_commit (commit_of c.commits r.start_version) refl u)

passes_commit : (cs : List Cell) (r : CommitRequest) (ks : List Key) (k : Key) → first_commit_error cs r ks ≡ None → has_key ks k ≡ true → commit_error r k (cell_at cs k) ≡ None
passes_commit cs r [] k h g = absurd (cc)
passes_commit cs r (q ∷ ks) k h g = by (λ a b. passes_commit cs r ks k a b) (commit_error r q (cell_at cs q)) (key_eq q k) refl refl h g
  where
    by : (first_commit_error cs r ks ≡ None → has_key ks k ≡ true → commit_error r k (cell_at cs k) ≡ None) → (o : Option KeyError) (b : Bool) → commit_error r q (cell_at cs q) ≡ o → key_eq q k ≡ b → or_earlier o (first_commit_error cs r ks) ≡ None → (b || has_key ks k) ≡ true → commit_error r k (cell_at cs k) ≡ None
    by rest (Some w) b e f u v = absurd (cc)
    by rest None true e f u v = subst (λ z. commit_error r z (cell_at cs z) ≡ None) (same_key q k f) e
    by rest None false e f u v = rest u v

commit_means : (plans : ℕ → Plan) (b : ℕ → Key → Option ℕ) (e : Option RegionErr) (x : Option KeyError) (st : Store) (r : CommitRequest) → first_commit_error st.cells r r.keys ≡ x → AreInOrder st.cells → ((k : Key) → IsSound (cell_at st.cells k)) → Means plans (commit_by e x st r).store b (Commit r) (commit_by e x st r).reply
commit_means plans b (Some e) x st r d o i = λ h k g. absurd (cc h.0)
commit_means plans b None (Some x) st r d o i = λ h k g. absurd (cc h.1)
commit_means plans b None None st r d o i = λ h k g.
    let new = (commit_by None None st r).store in
    let now = changed_cell st new r.keys (committed r.start_version r.commit_version) k (cell_changed r.keys (committed r.start_version r.commit_version) (commit_keeps r.start_version r.commit_version) st.cells o k) g in
    subst (λ (c : Cell). IsCommitted (phase c r.start_version)) (sym now) (commits_now r k (cell_at st.cells k) (i k) (passes_commit st.cells r r.keys k d g))

rollback_means : (plans : ℕ → Plan) (b : ℕ → Key → Option ℕ) (e : Option RegionErr) (x : Option KeyError) (st : Store) (r : BatchRollbackRequest) → AreInOrder st.cells → Means plans (batch_rollback_by e x st r).store b (BatchRollback r) (batch_rollback_by e x st r).reply
rollback_means plans b (Some e) x st r o = λ h k g. absurd (cc h.0)
rollback_means plans b None (Some x) st r o = λ h k g. absurd (cc h.1)
rollback_means plans b None None st r o = λ h k g.
    let new = (batch_rollback_by None None st r).store in
    let now = changed_cell st new r.keys (rolled_back r.start_version) k (cell_changed r.keys (rolled_back r.start_version) (rolled_keeps r.start_version) st.cells o k) g in
    subst (λ (c : Cell). phase c r.start_version ≡ RolledBack) (sym now) (rolls_now r.start_version (cell_at st.cells k))

cleanup_means : (plans : ℕ → Plan) (b : ℕ → Key → Option ℕ) (e : Option RegionErr) (x : Option KeyError) (w : Option Write) (st : Store) (r : CleanupRequest) → AreInOrder st.cells → IsSound (cell_at st.cells r.key) → commit_of (cell_at st.cells r.key).commits r.start_version ≡ w → Means plans (cleanup_by e x w st r).store b (Cleanup r) (cleanup_by e x w st r).reply
cleanup_means plans b (Some e) x w st r o i d = λ h. absurd (cc h.0)
cleanup_means plans b None (Some x) w st r o i d = λ h. absurd (cc h.1)
cleanup_means plans b None None (Some w) st r o i d = λ h. inr (content w.kind w.value, committed_phase (cell_at st.cells r.key) r.start_version w i d)
cleanup_means plans b None None None st r o i d = λ h.
    let new = (cleanup_by None None None st r).store in
    let now = changed_cell st new (r.key ∷ []) (rolled_back r.start_version) r.key (cell_changed (r.key ∷ []) (rolled_back r.start_version) (rolled_keeps r.start_version) st.cells o r.key) (one_key r.key) in
    inl (refl, subst (λ (x : Cell). phase x r.start_version ≡ RolledBack) (sym now) (rolls_now r.start_version (cell_at st.cells r.key)))

abbrev CellStands : Cell → ℕ → ℕ → Type 0
CellStands c s d = ((d ≡ 0) × (phase c s ≡ RolledBack)) ⊎ ((y : Content) × (phase c s ≡ Committed d y))

above_0 : {G : Type 0} (d : ℕ) → 0 ≡ d → (0 < d) ⊎ G → G
above_0 d e (inl a) = absurd (omega arith)
above_0 d e (inr g) = g

expired_stands : (r : CheckTxnStatusRequest) (c : Cell) (l : Lock) → r.resolving_pessimistic_lock ≡ false → phase (if goes_unrecorded r l then released r.lock_ts c else rolled_back r.lock_ts c) r.lock_ts ≡ RolledBack
expired_stands r c l e = rw e (rolls_now r.lock_ts c)

status_stands : (r : CheckTxnStatusRequest) (c : Cell) → IsSound c → (f : Finding) → FindsIn r c f → (d : ℕ) → TellsStatus (status_reply r f) d → (0 < d) ⊎ (r.resolving_pessimistic_lock ≡ false) → CellStands (status_cell r f c) r.lock_ts d
status_stands r c i (Mismatched l) g d t h = absurd (cc t.1)
status_stands r c i (Expired l) g d t h = inl (sym t.4, expired_stands r c l (above_0 d t.4 h))
status_stands r c i (Live l) g d t h = absurd (cc t.2)
status_stands r c i (FoundCommit w) g d t h = inr (content w.kind w.value, subst (λ n. phase c r.lock_ts ≡ Committed n (content w.kind w.value)) t.4 (committed_phase c r.lock_ts w i g))
status_stands r c i FoundRollback g d t h = inl (sym t.4, rolled_phase c r.lock_ts g)
status_stands r c i Nothing g d t h = by r.resolving_pessimistic_lock r.rollback_if_not_exist refl t
  where
    by : (a b : Bool) → r.resolving_pessimistic_lock ≡ a → TellsStatus (if a then status_told 0 0 actions.LockNotExistDoNothing None else (if b then status_told 0 0 actions.LockNotExistRollback None else record no_status { error = Some (errors.TxnNotFound r.primary_key r.lock_ts) })) d → CellStands (if b && not a then rolled_back r.lock_ts c else c) r.lock_ts d
    by true b e u = let z : r.resolving_pessimistic_lock ≡ false = above_0 d u.4 h in absurd (cc)
    by false true e u = inl (sym u.4, rolls_now r.lock_ts c)
    by false false e u = absurd (cc u.1)

status_means : (plans : ℕ → Plan) (b : ℕ → Key → Option ℕ) (e : Option RegionErr) (f : Finding) (st : Store) (r : CheckTxnStatusRequest) → AreInOrder st.cells → IsSound (cell_at st.cells r.primary_key) → FindsIn r (cell_at st.cells r.primary_key) f → Means plans (check_txn_status_by e f st r).store b (CheckTxnStatus r) (check_txn_status_by e f st r).reply
status_means plans b (Some e) f st r o i g = λ c h t. absurd (cc h.0)
status_means plans b None f st r o i g = λ c h t.
    let new = (check_txn_status_by None f st r).store in
    let now = changed_cell st new (r.primary_key ∷ []) (status_cell r f) r.primary_key (cell_changed (r.primary_key ∷ []) (status_cell r f) (status_keeps r f) st.cells o r.primary_key) (one_key r.primary_key) in
    subst (λ (x : Cell). CellStands x r.lock_ts c) (sym now) (status_stands r (cell_at st.cells r.primary_key) i f g c h t)

-- CheckSecondaryLocks

first_commit_at : (cs : List Cell) (s : ℕ) (ks : List Key) (w : Write) → first_commit cs s ks ≡ Some w → (k : Key) × (has_key ks k ≡ true) × (commit_of (cell_at cs k).commits s ≡ Some w)
first_commit_at cs s [] w h = absurd (cc)
first_commit_at cs s (k ∷ ks) w h = by (first_commit_at cs s ks w) (commit_of (cell_at cs k).commits s) refl h
  where
    more : (b : Bool) (q : Key) → has_key ks q ≡ true → (b || has_key ks q) ≡ true
    more true q e = refl
    more false q e = e

    by : (first_commit cs s ks ≡ Some w → (q : Key) × (has_key ks q ≡ true) × (commit_of (cell_at cs q).commits s ≡ Some w)) → (o : Option Write) → commit_of (cell_at cs k).commits s ≡ o → or_earlier o (first_commit cs s ks) ≡ Some w → (q : Key) × (has_key (k ∷ ks) q ≡ true) × (commit_of (cell_at cs q).commits s ≡ Some w)
    by rest (Some v) e g = (k, (let z = key_itself k in rw z refl), e ∙ g)
    by rest None e g = let u = rest g in (u.0, more (key_eq k u.0) u.0 u.1, u.2)

missing_at : (cs : List Cell) (s : ℕ) (ks : List Key) → any_missing cs s ks ≡ true → (k : Key) × (has_key ks k ≡ true) × (is_missing s (cell_at cs k) ≡ true)
missing_at cs s [] h = absurd (cc)
missing_at cs s (k ∷ ks) h = by (missing_at cs s ks) (is_missing s (cell_at cs k)) refl h
  where
    more : (b : Bool) (q : Key) → has_key ks q ≡ true → (b || has_key ks q) ≡ true
    more true q e = refl
    more false q e = e

    by : (any_missing cs s ks ≡ true → (q : Key) × (has_key ks q ≡ true) × (is_missing s (cell_at cs q) ≡ true)) → (b : Bool) → is_missing s (cell_at cs k) ≡ b → (b || any_missing cs s ks) ≡ true → (q : Key) × (has_key (k ∷ ks) q ≡ true) × (is_missing s (cell_at cs q) ≡ true)
    by rest true e g = (k, (let z = key_itself k in rw z refl), e)
    by rest false e g = let u = rest g in (u.0, more (key_eq k u.0) u.0 u.1, u.2)

not_missing : (s : ℕ) (c : Cell) (w : Write) → commit_of c.commits s ≡ Some w → missing_rolled_back s c ≡ c
not_missing s c w e = by (owns c.lock s) (is_some (commit_of c.commits s)) (rw e refl)
  where
    by : (a b : Bool) → b ≡ true → (if not a && not b then rolled_back s c else c) ≡ c
    by true b h = refl
    by false true h = refl
    by false false h = absurd (cc)

secondary_means : (plans : ℕ → Plan) (b : ℕ → Key → Option ℕ) (e : Option RegionErr) (st : Store) (r : CheckSecondaryLocksRequest) → AreInOrder st.cells → ((k : Key) → IsSound (cell_at st.cells k)) → Means plans (check_secondary_locks_by e st r).store b (CheckSecondaryLocks r) (check_secondary_locks_by e st r).reply
secondary_means plans b (Some e) st r o i = ((λ h. absurd (omega arith)), λ h. absurd (cc))
secondary_means plans b None st r o i = (seen (first_commit st.cells r.start_version r.keys) refl, missed)
  where
    new : Store
    new = (check_secondary_locks_by None st r).store

    now : (k : Key) → has_key r.keys k ≡ true → cell_at (check_secondary_locks_by None st r).store.cells k ≡ missing_rolled_back r.start_version (cell_at st.cells k)
    now k g = changed_cell st (check_secondary_locks_by None st r).store r.keys (missing_rolled_back r.start_version) k (cell_changed r.keys (missing_rolled_back r.start_version) (missing_keeps r.start_version) st.cells o k) g

    seen : (f : Option Write) → first_commit st.cells r.start_version r.keys ≡ f → 0 < timestamp_or_0 f → (k : Key) × (y : Content) × (phases (check_secondary_locks_by None st r).store r.start_version k ≡ Committed (timestamp_or_0 f) y)
    seen None e h = absurd (omega arith)
    seen (Some w) e h =
        let u = first_commit_at st.cells r.start_version r.keys w e in
        (u.0, content w.kind w.value, subst (λ (c : Cell). phase c r.start_version ≡ Committed w.commit (content w.kind w.value)) (sym (now u.0 u.1 ∙ not_missing r.start_version (cell_at st.cells u.0) w u.2)) (committed_phase (cell_at st.cells u.0) r.start_version w (i u.0) u.2))

    missed : any_missing st.cells r.start_version r.keys ≡ true → (k : Key) × (has_key r.keys k ≡ true) × (phases (check_secondary_locks_by None st r).store r.start_version k ≡ RolledBack)
    missed h =
        let u = missing_at st.cells r.start_version r.keys h in
        let rolled : missing_rolled_back r.start_version (cell_at st.cells u.0) ≡ rolled_back r.start_version (cell_at st.cells u.0) = (let z = u.2 in rw z refl) in
        (u.0, u.1, subst (λ (c : Cell). phase c r.start_version ≡ RolledBack) (sym (now u.0 u.1 ∙ rolled)) (rolls_now r.start_version (cell_at st.cells u.0)))

-- Tso

pub first_above : (n m : ℕ) → n ≤ first_from n m
first_above n m = by (nat_lt (n % 2 ^ 18 + (m - 1)) (2 ^ 18))
  where
    by : (b : Bool) → n ≤ (if b then n else (n / 2 ^ 18 + 1) * 2 ^ 18)
    by true = omega arith
    by false = omega arith

pub timestamps_rise : (st : Store) (r : TsoRequest) (x : TsoResponse) (c : ℕ) → (table st (Tso r)).reply ≡ reply.Tso x → GivesTimestamp x c → (st.last < c) × (c ≤ (table st (Tso r)).store.last)
timestamps_rise st r x c e g =
    let last = last_timestamp st.last st.clock r.count in
    let same : x ≡ record { count = r.count; timestamp = Some (timestamp_of last) } = cc in
    let here : Some g.0 ≡ Some (timestamp_of last) = sym g.1 ∙ ap (λ (o : TsoResponse). o.timestamp) same in
    let stamp : g.0 ≡ timestamp_of last = cc in
    let number : version_of g.0 ≡ last = ap version_of stamp ∙ version_of-timestamp_of last in
    let count : x.count ≡ r.count = ap (λ (o : TsoResponse). o.count) same in
    let low = first_above (next_timestamp st.last st.clock) r.count in
    let a = g.2 in
    let b = g.3 in
    (omega (arith, number, count, low, a, b), omega (arith, number, a))

-- a reply means what it says; what a Prewrite says stands apart
pub means_given : (plans : ℕ → Plan) (b : ℕ → Key → Option ℕ) (st : Store) → AreInOrder st.cells → ((k : Key) → IsSound (cell_at st.cells k)) → (r : Request) → ((q : PrewriteRequest) → r ≡ Prewrite q → Means plans (table st r).store b r (table st r).reply) → Means plans (table st r).store b r (table st r).reply
means_given plans b st o i (Prewrite r) h = h r refl
means_given plans b st o i (Commit r) h = commit_means plans b (region_check st.regions r.context) (first_commit_error st.cells r r.keys) st r refl o i
means_given plans b st o i (BatchRollback r) h = rollback_means plans b (region_check st.regions r.context) (first_rollback_error st.cells r.start_version r.keys) st r o
means_given plans b st o i (Cleanup r) h = cleanup_means plans b (region_check st.regions r.context) (cleanup_refusal r.key r.start_version (cell_at st.cells r.key).lock) (commit_of (cell_at st.cells r.key).commits r.start_version) st r o (i r.key) refl
means_given plans b st o i (CheckTxnStatus r) h = status_means plans b (region_check st.regions r.context) (finding r (cell_at st.cells r.primary_key)) st r o (i r.primary_key) (finds r (cell_at st.cells r.primary_key))
means_given plans b st o i (CheckSecondaryLocks r) h = secondary_means plans b (region_check st.regions r.context) st r o i
means_given plans b st o i (Tso r) h = tso_means (table st (Tso r)).reply refl
  where
    tso_means : (x : Reply) → (table st (Tso r)).reply ≡ x → Means plans (table st (Tso r)).store b (Tso r) x
    tso_means (reply.Tso x) e = λ c g. let w = timestamps_rise st r x c e g in (omega (arith, w.0), w.1)
    tso_means _ e = tt
means_given plans b st o i _ h = tt

-- What stays of the phases and bounds of one start.
pub record Keeps (plan : Plan) (way : Way) (f g : Key → Phase) (b d : Key → Option ℕ) : Type 0 where
  pub committed : (k : Key) (c : ℕ) (x : Content) → f k ≡ Committed c x → g k ≡ Committed c x
  pub rolled : (k : Key) → f k ≡ RolledBack → g k ≡ RolledBack
  pub held : (r : PrewriteRequest) (n : ℕ) (k : Key) → HeldIn plan way f b r n k → HeldIn plan way g d r n k
  pub decided : (c : ℕ) → DecidedIn plan way f b c → DecidedIn plan way g d c

-- and goes on meaning it
module _ (plans : ℕ → Plan) (st new : Store) (b d : ℕ → Key → Option ℕ) (h : (s : ℕ) → Keeps (plans s) (plans s).way (phases st s) (phases new s) (b s) (d s)) (later : st.last ≤ new.last) where
  is_committed_stays : (s : ℕ) (k : Key) → IsCommitted (phases st s k) → IsCommitted (phases new s k)
  is_committed_stays s k q = by_phase (phases st s k) refl q
    where
      by_phase : (o : Phase) → phases st s k ≡ o → IsCommitted o → IsCommitted (phases new s k)
      by_phase (Committed c x) e i = rw ((h s).committed k c x e) tt
      by_phase _ e i = absurd i

  pub stands_stays : (p : Key) (s c : ℕ) → Stands st p s c → Stands new p s c
  stands_stays p s c f = elim f [ inl a ↦ inl (a.0, (h s).rolled p a.1) | inr a ↦ inr (a.0, (h s).committed p c a.0 a.1) ]

  pub means_stays : (r : Request) (o : Reply) → Means plans st b r o → Means plans new d r o
  means_stays (Prewrite r) (reply.Prewrite o) m = λ e. let w = m e in ((λ u. ((h r.start_version).decided o.one_pc_commit_ts (w.0 u).0, λ k l. is_committed_stays r.start_version k ((w.0 u).1 k l))), λ u k l. (h r.start_version).held r o.min_commit_ts k (w.1 u k l))
  means_stays (Commit r) (reply.Commit o) m = λ e k g. is_committed_stays r.start_version k (m e k g)
  means_stays (BatchRollback r) (reply.BatchRollback o) m = λ e k g. (h r.start_version).rolled k (m e k g)
  means_stays (Cleanup r) (reply.Cleanup o) m = λ e. stands_stays r.key r.start_version o.commit_version (m e)
  means_stays (CheckTxnStatus r) (reply.CheckTxnStatus o) m = λ c t g. stands_stays r.primary_key r.lock_ts c (m c t g)
  means_stays (CheckSecondaryLocks r) (reply.CheckSecondaryLocks o) m = ((λ e. let w = m.0 e in (w.0, w.1, (h r.start_version).committed w.0 o.commit_ts w.1 w.2)), λ e. let w = m.1 e in (w.0, w.1, (h r.start_version).rolled w.0 w.2))
  means_stays (Tso r) (reply.Tso o) m = λ c g. let w = m c g in (w.0, omega (arith, w.1, later))
  means_stays _ _ m = tt

-- of a reply that is there
abbrev pub OfSome : Option Reply → (Reply → Type 0) → Type 0
OfSome None P = Unit {0}
OfSome (Some o) P = P o

busy_says : (plans : ℕ → Plan) (st : Store) (b : ℕ → Key → Option ℕ) (r : Request) → OfSome (busy_reply r) (Means plans st b r)
busy_says plans st b (Prewrite r) = λ h. let a = h.0 in absurd (cc)
busy_says plans st b (Commit r) = λ h. let a = h.0 in absurd (cc)
busy_says plans st b (BatchRollback r) = λ h. let a = h.0 in absurd (cc)
busy_says plans st b (Cleanup r) = λ h. let a = h.0 in absurd (cc)
busy_says plans st b (CheckTxnStatus r) = λ c t g. let a = t.0 in absurd (cc)
busy_says plans st b (CheckSecondaryLocks r) = ((λ h. absurd (omega arith)), λ h. absurd (cc))
busy_says plans st b _ = tt

pub busy_means : (plans : ℕ → Plan) (st : Store) (b : ℕ → Key → Option ℕ) (r : Request) (o : Reply) → busy_reply r ≡ Some o → Means plans st b r o
busy_means plans st b r o e = subst (λ x. OfSome x (Means plans st b r)) e (busy_says plans st b r)
