-- What a prewrite makes ready before it changes a cell.
use Rattle.std.specs.Prelude.{ℕ, ◌||◌, if◌then◌else◌, List, [], ◌∷◌, ◌++◌, Option, Some, None, is_some}
use Rattle.txn_kv.specs.declared.message.Mutation.{Mutation}
use Rattle.txn_kv.specs.declared.request.commits.PrewriteRequest.{PrewriteRequest}
use Rattle.txn_model.specs.declared.cell.Cell.{Cell}
use Rattle.txn_model.specs.declared.cell.Kind.{Kind}
use Rattle.txn_model.specs.declared.cell.Lock.{Lock}
use Rattle.txn_model.specs.declared.change.Change.{Change}
use Rattle.txn_model.specs.declared.change.LockChange.{LockChange}
use Rattle.txn_model.specs.declared.change.LockChange.TheVariants.{Goes, Becomes}
use Rattle.txn_model.specs.declared.prewrite.Placing.{Placing}
use Rattle.txn_model.specs.declared.unlock.Commitment.{Commitment}
use Rattle.txn_model.specs.Cells.{Key, key_eq, cell_at}
use Rattle.txn_model.specs.Locks.{owns, commit_of}
use Rattle.txn_model.specs.Prewrite.{kind_of, lock_of, bound_at}

abbrev pub placing_of : PrewriteRequest → ℕ → Mutation → Option Kind → List Placing
placing_of r n m None = []
placing_of r n m (Some kind) = record { key = m.key; lock = lock_of r n m.value kind } ∷ []

-- the locks that the mutations set
abbrev pub placings : PrewriteRequest → ℕ → List Mutation → List Placing
placings r n [] = []
placings r n (m ∷ ms) = placing_of r n m (kind_of m.op) ++ placings r n ms

-- the lock is set, unless its start holds a prewrite lock or has a commit
abbrev pub locked : Placing → Cell → Cell
locked p c = if owns c.lock p.lock.start || is_some (commit_of c.commits p.lock.start) then c else record { key = c.key; lock = Some p.lock; commits = c.commits; rolled = c.rolled }

abbrev pub all_locked : List Placing → Cell → Cell
all_locked [] c = c
all_locked (p ∷ ps) c = all_locked ps (if key_eq p.key c.key then locked p c else c)

-- the commit that a lock is to become at n
abbrev pub landing : ℕ → Placing → Commitment
landing n p = record { key = p.key; start = p.lock.start; commit = n }

-- what puts a lock back where another was set
abbrev pub back_to : Option Lock → LockChange
back_to None = Goes
back_to (Some l) = Becomes l

abbrev pub back : Key → Cell → Change
back k c = record { key = k; lock = back_to c.lock; rolled = None }

-- the bound at a mutation's key, and 0 where it sets no lock
abbrev pub bound_by : List Cell → ℕ → Mutation → ℕ
bound_by cs s m = if is_some (kind_of m.op) then bound_at s (cell_at cs m.key).lock (commit_of (cell_at cs m.key).commits s) else 0
