-- What a commit of some keys keeps, so that it can be undone where memory is wanting at a later key.
use Rattle.std.specs.Prelude.{◌≡◌, ℕ, ◌<◌, List, [], ◌∷◌, Option, Some, None, length, remove, slice_get, slice_set}
use Rattle.txn_model.specs.declared.cell.Cell.{Cell}
use Rattle.txn_model.specs.declared.cell.Lock.{Lock}
use Rattle.txn_model.specs.declared.cell.Write.{Write}
use Rattle.txn_model.specs.declared.unlock.Unlocked.{Unlocked}
use Rattle.txn_model.specs.Cells.{no_cell}

abbrev pub value_in : Option Write → List ℕ
value_in None = []
value_in (Some w) = w.value

-- the lock with the value of the commit that it became
abbrev pub lock_back : Lock → List ℕ → Lock
lock_back l v = record {
  start = l.start;
  primary = l.primary;
  kind = l.kind;
  value = v;
  ttl = l.ttl;
  for_update = l.for_update;
  min_commit = l.min_commit;
  use_async = l.use_async;
  secondaries = l.secondaries;
}

-- the cell with its lock, and without the commit that it became
abbrev pub relocked : ℕ → Lock → Cell → Cell
relocked place l c = record { key = c.key; lock = Some (lock_back l (value_in (slice_get c.commits place))); commits = remove c.commits place; rolled = c.rolled }

abbrev pub cell_in : Option Cell → Cell
cell_in None = no_cell []
cell_in (Some c) = c

-- the cells with one commit undone
abbrev pub undone : Unlocked → List Cell → List Cell
undone u cs = slice_set cs u.at (relocked u.place u.lock (cell_in (slice_get cs u.at)))

pub record CanUndo (u : Unlocked) (cs : List Cell) : Type 0 where
  pub cell : u.at < length cs
  pub commit : u.place < length (cell_in (slice_get cs u.at)).commits

-- the same for several, the last first
abbrev pub all_undone : List Unlocked → List Cell → List Cell
all_undone [] cs = cs
all_undone (u ∷ us) cs = all_undone us (undone u cs)

abbrev pub CanUndoAll : List Unlocked → List Cell → Type 0
CanUndoAll [] cs = Unit {0}
CanUndoAll (u ∷ us) cs = CanUndo u cs × CanUndoAll us (undone u cs)

-- a commit of one key, which may be undone: from no change, or from one
abbrev pub Undoes : Option Unlocked → List Cell → List Cell → Type 0
Undoes None old new = new ≡ old
Undoes (Some u) old new = CanUndo u new × (undone u new ≡ old)
