-- What one request may do at a key, and what may become of a lock there.
use Rattle.std.specs.Prelude.{◌≡◌, ◌⊎◌, ℕ, ◌<◌, Bool, true, false, ◌&&◌, List, Some, None, nat_eq}
use Rattle.std.specs.List.{list_any}
use Rattle.txn_kv.specs.declared.message.TxnInfo.{TxnInfo}
use Rattle.txn_kv.specs.declared.request.Request.{Request}
use Rattle.txn_kv.specs.declared.request.Request.TheVariants.{Prewrite, Commit, Cleanup, BatchRollback, PessimisticRollback, PessimisticLock, ResolveLock, CheckTxnStatus, CheckSecondaryLocks, UnsafeDestroyRange}
use Rattle.txn_model.specs.declared.cell.Cell.{Cell}
use Rattle.txn_model.specs.declared.cell.Lock.{Lock}
use Rattle.txn_model.specs.declared.cell.Write.{Write}
use Rattle.txn_model.specs.Cells.{Key, has_key}
use Rattle.txn_model.specs.Locks.{has_start, owns, holds, commit_of}
use Rattle.txn_model.specs.Prewrite.{least_bound, mutation_keys}
use Rattle.txn_model.specs.Ranges.{in_range}
use Rattle.txn_model.specs.Resolve.{infos, is_in_context}
use Rattle.txn_model.specs.Store.{Store}

-- a list of starts to settle names this one, with this commit timestamp or 0
abbrev pub has_info : List TxnInfo → ℕ → ℕ → Bool
has_info is s n = list_any (λ i. nat_eq i.txn s && nat_eq i.status n) is

-- the request sets prewrite locks of the start, at the key
abbrev pub PrewritesAt : Request → Key → ℕ → Type 0
PrewritesAt (Prewrite r) k s = (s ≡ r.start_version) × (has_key (mutation_keys r.mutations) k ≡ true) × (r.try_one_pc ≡ false)
PrewritesAt _ k s = ⊥

-- the request commits the start at the key at once, without a prewrite lock before, at timestamp n
abbrev pub LandsAt : Store → Request → Key → ℕ → ℕ → Type 0
LandsAt st (Prewrite r) k s n = (s ≡ r.start_version) × (n ≡ least_bound st r) × (has_key (mutation_keys r.mutations) k ≡ true) × (r.try_one_pc ≡ true)
LandsAt st _ k s n = ⊥

-- the request sets pessimistic locks of the start, at the key
abbrev pub LocksAt : Request → Key → ℕ → Type 0
LocksAt (PessimisticLock r) k s = (s ≡ r.start_version) × (has_key (mutation_keys r.mutations) k ≡ true)
LocksAt _ k s = ⊥

-- the request commits the start at the key, at timestamp n
abbrev pub CommitsAt : Store → Request → Key → ℕ → ℕ → Type 0
CommitsAt st (Commit r) k s n = (s ≡ r.start_version) × (n ≡ r.commit_version) × (has_key r.keys k ≡ true)
CommitsAt st (ResolveLock r) k s n = (has_info (infos r) s n ≡ true) × (0 < n) × (is_in_context st.regions r.context k ≡ true)
CommitsAt st _ k s n = ⊥

-- the request rolls the start back at the key
abbrev pub RollsBackAt : Store → Request → Key → ℕ → Type 0
RollsBackAt st (BatchRollback r) k s = (s ≡ r.start_version) × (has_key r.keys k ≡ true)
RollsBackAt st (Cleanup r) k s = (s ≡ r.start_version) × (k ≡ r.key)
RollsBackAt st (CheckTxnStatus r) k s = (s ≡ r.lock_ts) × (k ≡ r.primary_key)
RollsBackAt st (CheckSecondaryLocks r) k s = (s ≡ r.start_version) × (has_key r.keys k ≡ true)
RollsBackAt st (ResolveLock r) k s = (has_info (infos r) s 0 ≡ true) × (is_in_context st.regions r.context k ≡ true)
RollsBackAt st _ k s = ⊥

-- the request takes a pessimistic lock of the start away from the key, and records nothing
abbrev pub ReleasesAt : Store → Request → Key → ℕ → Type 0
ReleasesAt st (PessimisticRollback r) k s = (s ≡ r.start_version) × (has_key r.keys k ≡ true)
ReleasesAt st (CheckTxnStatus r) k s = (s ≡ r.lock_ts) × (k ≡ r.primary_key) × (r.resolving_pessimistic_lock ≡ true)
ReleasesAt st (ResolveLock r) k s = ((n : ℕ) × (has_info (infos r) s n ≡ true)) × (is_in_context st.regions r.context k ≡ true)
ReleasesAt st _ k s = ⊥

-- the request takes away all that is kept of the key
abbrev pub DestroysAt : Request → Key → Type 0
DestroysAt (UnsafeDestroyRange r) k = in_range r.start_key r.end_key k ≡ true
DestroysAt _ k = ⊥

-- the lock stands, maybe with a longer life
pub record StandsOn (l : Lock) (c : Cell) : Type 0 where
  pub lock : Lock
  pub here : c.lock ≡ Some lock
  pub start : lock.start ≡ l.start
  pub primary : lock.primary ≡ l.primary
  pub kind : lock.kind ≡ l.kind
  pub value : lock.value ≡ l.value
  pub min_commit : lock.min_commit ≡ l.min_commit
  pub use_async : lock.use_async ≡ l.use_async
  pub secondaries : lock.secondaries ≡ l.secondaries

-- the commit that a lock becomes at timestamp n
abbrev pub commit_from : Lock → ℕ → Write
commit_from l n = record { start = l.start; commit = n; kind = l.kind; value = l.value }

-- What has become of a prewrite lock by a request: it stands, it is the commit of its start, its start is rolled back,
-- or all of the key was destroyed.
abbrev pub PrewriteLockBecomes : Store → Request → Key → Lock → Cell → Type 0
PrewriteLockBecomes st r k l d =
    StandsOn l d
    ⊎ ((n : ℕ) × CommitsAt st r k l.start n × (commit_of d.commits l.start ≡ Some (commit_from l n)))
    ⊎ (RollsBackAt st r k l.start × (has_start d.rolled l.start ≡ true))
    ⊎ DestroysAt r k

-- The same of a pessimistic lock: its start still holds a lock, which is a prewrite lock only after its own prewrite; its
-- start is committed at once; its start is rolled back; it is released; or all of the key was destroyed.
abbrev pub PessimisticLockBecomes : Store → Request → Key → Lock → Cell → Type 0
PessimisticLockBecomes st r k l d =
    ((holds d.lock l.start ≡ true) × (owns d.lock l.start ≡ true → PrewritesAt r k l.start))
    ⊎ ((w : Write) × LandsAt st r k l.start w.commit × (commit_of d.commits l.start ≡ Some w))
    ⊎ (RollsBackAt st r k l.start × (has_start d.rolled l.start ≡ true))
    ⊎ (ReleasesAt st r k l.start × (d.lock ≡ None))
    ⊎ DestroysAt r k
