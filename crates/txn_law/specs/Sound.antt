-- What holds of every cell and store of a run, and what a request leaves of a lock.
use Rattle.std.specs.Prelude.{◌≡◌, ◌⊎◌, ℕ, ◌<◌, ◌≤◌, true, false, Some, None}
use Rattle.txn_kv.specs.declared.request.Request.{Request}
use Rattle.txn_kv.specs.declared.request.Request.TheVariants.{PessimisticLock}
use Rattle.txn_history.specs.Among.{IsAmong}
use Rattle.txn_history.specs.Plan.{Key}
use Rattle.txn_model.specs.declared.cell.Cell.{Cell}
use Rattle.txn_model.specs.declared.cell.Lock.{Lock}
use Rattle.txn_model.specs.declared.cell.Write.{Write}
use Rattle.txn_model.specs.Cells.{cell_at, AreInOrder}
use Rattle.txn_model.specs.Locks.{has_start, holds, commit_of, newest_commit}
use Rattle.txn_model.specs.Store.{Store}
use Rattle.txn_law.specs.Whole.{content, HasCommit}

-- A start that has a lock has neither a commit nor a rollback, one that is rolled back has no commit, a start commits
-- once, and the last commit is the newest.
pub record IsSound (c : Cell) : Type 0 where
  pub lock : (s : ℕ) → holds c.lock s ≡ true → (has_start c.rolled s ≡ false) × (commit_of c.commits s ≡ None)
  pub rolled : (s : ℕ) → has_start c.rolled s ≡ true → commit_of c.commits s ≡ None
  pub once : (w : Write) → IsAmong c.commits w → commit_of c.commits w.start ≡ Some w
  pub newest : (w : Write) → IsAmong c.commits w → w.commit ≤ newest_commit c.commits

pub record IsSoundStore (st : Store) : Type 0 where
  pub in_order : AreInOrder st.cells
  pub cells : (k : Key) → IsSound (cell_at st.cells k)

-- a pessimistic lock asks for no more than is below each commit of its start
abbrev pub IsTimely : Store → Request → Type 0
IsTimely st (PessimisticLock r) = (k : Key) (w : Write) → commit_of (cell_at st.cells k).commits r.start_version ≡ Some w → r.for_update_ts < w.commit
IsTimely st _ = Unit {0}

-- the lock stands, maybe with a longer life
pub record StandsOn (l : Lock) (c : Cell) : Type 0 where
  pub lock : Lock
  pub here : c.lock ≡ Some lock
  pub start : lock.start ≡ l.start
  pub primary : lock.primary ≡ l.primary
  pub kind : lock.kind ≡ l.kind
  pub value : lock.value ≡ l.value

-- what has become of a prewrite lock: it stands, or it is the commit of its start, or its start is rolled back
abbrev pub Became : Lock → Cell → Type 0
Became l c = StandsOn l c ⊎ ((n : ℕ) × HasCommit c l.start n (content l.kind l.value)) ⊎ (has_start c.rolled l.start ≡ true)
