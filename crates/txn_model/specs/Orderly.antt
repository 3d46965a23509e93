-- What holds of every cell of a store, whatever it served.
use Rattle.std.specs.Prelude.{◌≡◌, ℕ, ◌<◌, ◌≤◌, true, false, List, [], ◌∷◌, None}
use Rattle.txn_model.specs.declared.cell.Cell.{Cell}
use Rattle.txn_model.specs.declared.cell.Write.{Write}
use Rattle.txn_model.specs.Cells.{Key, cell_at}
use Rattle.txn_model.specs.Locks.{has_start, owns, commit_of}

-- each commit is at n or later
abbrev pub AllFrom : ℕ → List Write → Type 0
AllFrom n [] = Unit {0}
AllFrom n (w ∷ ws) = (n ≤ w.commit) × AllFrom n ws

-- commits stand in the order of `commit`
abbrev pub CommitsAscend : List Write → Type 0
CommitsAscend [] = Unit {0}
CommitsAscend (w ∷ ws) = AllFrom w.commit ws × CommitsAscend ws

-- no two commits are of one start
abbrev pub StartsDiffer : List Write → Type 0
StartsDiffer [] = Unit {0}
StartsDiffer (w ∷ ws) = (commit_of ws w.start ≡ None) × StartsDiffer ws

-- each start is above s
abbrev pub AllLater : ℕ → List ℕ → Type 0
AllLater s [] = Unit {0}
AllLater s (x ∷ xs) = (s < x) × AllLater s xs

-- starts ascend, and none stands twice
abbrev pub StartsAscend : List ℕ → Type 0
StartsAscend [] = Unit {0}
StartsAscend (x ∷ xs) = AllLater x xs × StartsAscend xs

-- commits and rolled starts are in order, and a start that holds a prewrite lock is neither committed nor rolled back
pub record IsOrderly (c : Cell) : Type 0 where
  pub commits : CommitsAscend c.commits
  pub once : StartsDiffer c.commits
  pub rolled : StartsAscend c.rolled
  pub free : (s : ℕ) → owns c.lock s ≡ true → (has_start c.rolled s ≡ false) × (commit_of c.commits s ≡ None)

-- the cell of each key is so
abbrev pub AreOrderly : List Cell → Type 0
AreOrderly cs = (k : Key) → IsOrderly (cell_at cs k)
