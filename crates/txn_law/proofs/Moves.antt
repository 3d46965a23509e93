-- What a request may do to the phase of a start at a key, and what it does to a cell.
use Rattle.txn_kv.specs.declared.request.locks.PessimisticLockRequest.{PessimisticLockRequest}
use Rattle.std.proofs.Common.{◌≡◌, ◌≢◌, ℕ, ◌⊎◌, inl, inr, Bool, true, false, List, Option, Some, None, refl, sym, subst, ◌≤◌, ◌∙◌, nat_eq, arith}
use Rattle.std.specs.Prelude.{if◌then◌else◌}
use Rattle.txn_kv.specs.declared.message.Mutation.{Mutation}
use Rattle.txn_kv.specs.declared.message.TxnInfo.{TxnInfo}
use Rattle.txn_kv.specs.declared.request.Request.{Request}
use Rattle.txn_kv.specs.declared.request.Request.TheVariants.{Prewrite, Commit, Cleanup, BatchRollback, ResolveLock, CheckTxnStatus, CheckSecondaryLocks, PessimisticLock}
use Rattle.txn_history.specs.Among.{IsAmong}
use Rattle.txn_history.specs.Plan.{Key, Content, has_key, content_of}
use Rattle.txn_model.specs.declared.cell.Cell.{Cell}
use Rattle.txn_model.specs.declared.cell.Lock.{Lock}
use Rattle.txn_model.specs.Cells.{cell_at, changed_at, AreInOrder}
use Rattle.txn_model.specs.Commit.{committed}
use Rattle.txn_model.specs.Locks.{is_prewrite, owns, commit_of, newest_commit}
use Rattle.txn_kv.specs.declared.request.commits.PrewriteRequest.{PrewriteRequest}
use Rattle.txn_model.specs.Prewrite.{least_bound, mutation_keys}
use Rattle.std.proofs.lemmas.Bool.Decides.{nat_tests}
use Rattle.txn_model.specs.PessimisticLock.{raised_lock}
use Rattle.txn_model.specs.Resolve.{infos}
use Rattle.txn_model.specs.Settle.{rolled_back, released}
use Rattle.txn_model.specs.Status.{longer_lived, with_lock}
use Rattle.txn_model.specs.Store.{Store}
use Rattle.txn_model.proofs.CellLists.{KeepsKeys, cell_changed, kept_changed}
use Rattle.txn_law.specs.Whole.{content}
use Rattle.txn_law.proofs.Phases.{Phase, phase, Move, Goes, IsSound, IsOpen, IsClear, placed, held, phase_placed, sound_placed, phase_rolled, sound_rolled, phase_committed, sound_committed, commit_of_with, phase_released, sound_released, phase_held, sound_held, phase_renewed, sound_renewed}
use Rattle.txn_law.proofs.Phases.Phase.{Free, Locked, Committed}
use Rattle.txn_law.proofs.Phases.Move.{Locks, Commits, Rolls}

-- a lock names this primary
abbrev pub Names : Phase → Key → Type 0
Names before p = (q : Key) (x : Content) → before ≡ Locked q x → q ≡ p

-- a prewrite lock of s that stands in the cell is no async one
abbrev pub IsPlainOf : Cell → ℕ → Type 0
IsPlainOf c s = (l : Lock) → c.lock ≡ Some l → owns (Some l) s ≡ true → l.use_async ≡ false

-- A request may move the phase of start t at key k so, where the cell stands so before.
abbrev pub May : Request → Key → ℕ → Cell → Move → Type 0
May (Prewrite r) k t c (Locks q x) = (t ≡ r.start_version) × (q ≡ r.primary_lock) × (m : Mutation) × IsAmong r.mutations m × (m.key ≡ k) × (content_of m ≡ Some x)
May (Commit r) k t c (Commits n) = (t ≡ r.start_version) × (n ≡ r.commit_version) × (has_key r.keys k ≡ true)
May (BatchRollback r) k t c Rolls = (t ≡ r.start_version) × (has_key r.keys k ≡ true)
May (Cleanup r) k t c Rolls = (t ≡ r.start_version) × (k ≡ r.key) × Names (phase c t) r.key × IsPlainOf c t
May (CheckTxnStatus r) k t c Rolls = (t ≡ r.lock_ts) × (k ≡ r.primary_key) × Names (phase c t) r.primary_key × ((r.force_sync_commit ≡ true) ⊎ IsPlainOf c t)
May (CheckSecondaryLocks r) k t c Rolls = (t ≡ r.start_version) × ((q : Key) (x : Content) → phase c t ≡ Locked q x → ⊥)
May (ResolveLock r) k t c (Commits n) = (i : TxnInfo) × IsAmong (infos r) i × (i.txn ≡ t) × (i.status ≡ n) × (n ≢ 0)
May (ResolveLock r) k t c Rolls = (i : TxnInfo) × IsAmong (infos r) i × (i.txn ≡ t) × (i.status ≡ 0)
May _ k t c m = ⊥

-- it locks by a Prewrite of the key
pub may_lock : (r : Request) (k : Key) (t : ℕ) (c : Cell) (p : Key) (x : Content) → May r k t c (Locks p x) → (q : PrewriteRequest) × (r ≡ Prewrite q) × (t ≡ q.start_version) × ((m : Mutation) × IsAmong q.mutations m × (m.key ≡ k) × (content_of m ≡ Some x))
may_lock (Prewrite q) k t c p x h = (q, refl, h.0, (h.2, h.3, h.4, h.5))
may_lock _ k t c p x h = absurd h

-- a request may set this pessimistic lock at the key, whose lock was the other one and whose newest commit is n
abbrev pub MayHold : Request → Key → Option Lock → Lock → ℕ → Type 0
MayHold r k before l n = (q : PessimisticLockRequest) × (r ≡ PessimisticLock q) × (q.start_version ≡ l.start) × (n ≤ q.for_update_ts) × (has_key (mutation_keys q.mutations) k ≡ true) × (l ≡ raised_lock q before)

-- the bound of the locks that a request sets
abbrev pub bound_in : Store → Request → ℕ
bound_in st (Prewrite r) = least_bound st r
bound_in st _ = 0

-- a lock is as a Prewrite sets it, with this bound, all at once or not
abbrev pub SetBy : Request → ℕ → Bool → Lock → Type 0
SetBy r n once l = (q : PrewriteRequest) × (r ≡ Prewrite q) × (q.try_one_pc ≡ once) × (l.use_async ≡ q.use_async_commit) × (l.secondaries ≡ q.secondaries) × (l.min_commit ≡ (if q.use_async_commit then n else 0)) × (l.start ≡ q.start_version)

-- a Prewrite commits the key at once, as if it were locked and then committed at n
abbrev pub LandsAt : ℕ → Request → Key → ℕ → Cell → Phase → Type 0
LandsAt n r k t c after = (p : Key) × (x : Content) × May r k t c (Locks p x) × (phase c t ≡ Free) × (after ≡ Committed n x) × ((q : PrewriteRequest) × (r ≡ Prewrite q) × (q.try_one_pc ≡ true))

-- the phase stays, or goes by a move that the request may make, or by two at once
abbrev pub Outcome : ℕ → Request → Key → ℕ → Cell → Phase → Type 0
Outcome n r k t c after = (after ≡ phase c t) ⊎ (((m : Move) × May r k t c m × Goes (phase c t) m after) ⊎ LandsAt n r k t c after)

-- What a request does to one cell: one of these changes, which it may make, or nothing. Each row is shown to be so once,
-- and every fact about cells is shown once for each change.
pub data CellStep (n : ℕ) (r : Request) (k : Key) (c : Cell) : Cell → Type 0 where
  Same : CellStep n r k c c
  Places : (l : Lock) → is_prewrite l.kind ≡ true → IsOpen c l.start → May r k l.start c (Locks l.primary (content l.kind l.value)) → SetBy r n false l → owns c.lock l.start ≡ false → CellStep n r k c (placed l c)
  Landed : (l : Lock) → is_prewrite l.kind ≡ true → IsOpen c l.start → May r k l.start c (Locks l.primary (content l.kind l.value)) → SetBy r n true l → owns c.lock l.start ≡ false → CellStep n r k c (committed l.start n (placed l c))
  Recorded : (s : ℕ) → commit_of c.commits s ≡ None → May r k s c Rolls → CellStep n r k c (rolled_back s c)
  Made : (s at : ℕ) → May r k s c (Commits at) → CellStep n r k c (committed s at c)
  Released : (s : ℕ) → CellStep n r k c (released s c)
  Held : (l : Lock) → is_prewrite l.kind ≡ false → IsClear c l.start → MayHold r k c.lock l (newest_commit c.commits) → CellStep n r k c (held l c)
  Renewed : (l : Lock) (ttl : ℕ) → c.lock ≡ Some l → CellStep n r k c (with_lock (longer_lived ttl l) c)

pub at_start : (r : Request) (k : Key) (c : Cell) (t s : ℕ) (m : Move) → t ≡ s → May r k s c m → May r k t c m
at_start r k c t s m e = subst (λ u. May r k u c m) (sym e)

commit_lands : (c : Cell) (s at : ℕ) (p : Key) (x : Content) → phase c s ≡ Locked p x → phase (committed s at c) s ≡ Committed at x
commit_lands c s at p x h = grind (arith, nat_tests, commit_of_with)

-- what is placed and committed at once was free
pub land_phase : (l : Lock) (c : Cell) (t at : ℕ) → is_prewrite l.kind ≡ true → IsOpen c l.start → owns c.lock l.start ≡ false → IsSound c → (phase (committed l.start at (placed l c)) t ≡ phase c t) ⊎ ((t ≡ l.start) × (phase c t ≡ Free) × (phase (committed l.start at (placed l c)) t ≡ Committed at (content l.kind l.value)))
land_phase l c t at e a f i = by (phase_committed l.start at (placed l c) t (sound_placed l c a i)) (phase_placed l c t e a) (nat_eq t l.start) refl
  where
    here : (nat_eq t l.start ≡ true) → t ≡ l.start
    here h = grind (arith, nat_tests)

    open_free : (u : ℕ) → u ≡ l.start → phase c u ≡ Free
    open_free u h = let x = a.unrolled in let y = a.uncommitted f in grind (arith, nat_tests)

    now_locked : phase (placed l c) l.start ≡ Locked l.primary (content l.kind l.value)
    now_locked = let x = a.unrolled in let y = a.uncommitted f in grind (arith, nat_tests)

    by : (phase (committed l.start at (placed l c)) t ≡ phase (placed l c) t) ⊎ ((t ≡ l.start) × Goes (phase (placed l c) t) (Commits at) (phase (committed l.start at (placed l c)) t)) → (phase (placed l c) t ≡ phase c t) ⊎ ((t ≡ l.start) × Goes (phase c t) (Locks l.primary (content l.kind l.value)) (phase (placed l c) t)) → (b : Bool) → nat_eq t l.start ≡ b → (phase (committed l.start at (placed l c)) t ≡ phase c t) ⊎ ((t ≡ l.start) × (phase c t ≡ Free) × (phase (committed l.start at (placed l c)) t ≡ Committed at (content l.kind l.value)))
    by u v true h = inr (here h, open_free t (here h), subst (λ z. phase (committed l.start at (placed l c)) z ≡ Committed at (content l.kind l.value)) (sym (here h)) (commit_lands (placed l c) l.start at l.primary (content l.kind l.value) now_locked))
    by (inl u) (inl v) false h = inl (u ∙ v)
    by (inr u) v false h = absurd (let w = u.0 in grind (arith, nat_tests))
    by u (inr v) false h = absurd (let w = v.0 in grind (arith, nat_tests))

pub outcome : (n : ℕ) (r : Request) (k : Key) (t : ℕ) (c d : Cell) → IsSound c → CellStep n r k c d → Outcome n r k t c (phase d t)
outcome n r k t c d i Same = inl refl
outcome n r k t c d i (Places l e a w v f) = elim (phase_placed l c t e a) [ inl h ↦ inl h | inr h ↦ inr (inl (Locks l.primary (content l.kind l.value), at_start r k c t l.start (Locks l.primary (content l.kind l.value)) h.0 w, h.1)) ]
outcome n r k t c d i (Landed l e a w v f) = elim (land_phase l c t n e a f i) [ inl h ↦ inl h | inr h ↦ inr (inr (l.primary, content l.kind l.value, at_start r k c t l.start (Locks l.primary (content l.kind l.value)) h.0 w, h.1, h.2, (v.0, v.1, v.2))) ]
outcome n r k t c d i (Recorded s a w) = elim (phase_rolled s c t a) [ inl h ↦ inl h | inr h ↦ inr (inl (Rolls, at_start r k c t s Rolls h.0 w, h.1)) ]
outcome n r k t c d i (Made s at w) = elim (phase_committed s at c t i) [ inl h ↦ inl h | inr h ↦ inr (inl (Commits at, at_start r k c t s (Commits at) h.0 w, h.1)) ]
outcome n r k t c d i (Released s) = inl (phase_released s c t)
outcome n r k t c d i (Held l e a b) = inl (phase_held l c t e a)
outcome n r k t c d i (Renewed l ttl e) = inl (phase_renewed l ttl c t e)

pub sound_after : (n : ℕ) (r : Request) (k : Key) (c d : Cell) → IsSound c → CellStep n r k c d → IsSound d
sound_after n r k c d i Same = i
sound_after n r k c d i (Places l e a w v f) = sound_placed l c a i
sound_after n r k c d i (Landed l e a w v f) = sound_committed l.start n (placed l c) (sound_placed l c a i)
sound_after n r k c d i (Recorded s a w) = sound_rolled s c a i
sound_after n r k c d i (Made s at w) = sound_committed s at c i
sound_after n r k c d i (Released s) = sound_released s c i
sound_after n r k c d i (Held l e a b) = sound_held l c a i
sound_after n r k c d i (Renewed l ttl e) = sound_renewed l ttl c e i

-- what a request makes of the cells of a store: they stay in order, and each goes by a step
pub record RowStep (st : Store) (r : Request) (cells : List Cell) : Type 0 where
  pub in_order : AreInOrder cells
  pub step : (k : Key) → IsSound (cell_at st.cells k) → CellStep (bound_in st r) r k (cell_at st.cells k) (cell_at cells k)

pub row_same : (st : Store) (r : Request) → AreInOrder st.cells → RowStep st r st.cells
row_same st r o = record { in_order = o; step = λ k i. Same }

pub if_cell : (P : Cell → Type 0) (b : Bool) (c d : Cell) → P c → (b ≡ true → P d) → P (if b then d else c)
if_cell P true c d h f = f refl
if_cell P false c d h f = h

pub row_changed : (st : Store) (r : Request) (ks : List Key) (f : Cell → Cell) → KeepsKeys f → AreInOrder st.cells → ((k : Key) → has_key ks k ≡ true → IsSound (cell_at st.cells k) → CellStep (bound_in st r) r k (cell_at st.cells k) (f (cell_at st.cells k))) → RowStep st r (changed_at ks f st.cells)
row_changed st r ks f keeps o h = record {
  in_order = (kept_changed ks f keeps st.cells o).in_order;
  step = λ k i. subst (CellStep (bound_in st r) r k (cell_at st.cells k)) (sym (cell_changed ks f keeps st.cells o k)) (if_cell (CellStep (bound_in st r) r k (cell_at st.cells k)) (has_key ks k) (cell_at st.cells k) (f (cell_at st.cells k)) Same (λ e. h k e i));
}
