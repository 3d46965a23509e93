-- What a request makes ready before it changes a cell beside its commits.
use Rattle.std.specs.Prelude.{ℕ, if◌then◌else◌, List, [], ◌∷◌, Option, Some, None, unwrap_or}
use Rattle.txn_model.specs.declared.cell.Cell.{Cell}
use Rattle.txn_model.specs.declared.cell.Lock.{Lock}
use Rattle.txn_model.specs.declared.change.Change.{Change}
use Rattle.txn_model.specs.declared.change.LockChange.{LockChange}
use Rattle.txn_model.specs.declared.change.LockChange.TheVariants.{Stays, Goes, Becomes}
use Rattle.txn_model.specs.Cells.{key_eq}

abbrev pub lock_after : LockChange → Option Lock → Option Lock
lock_after Stays l = l
lock_after Goes l = None
lock_after (Becomes m) l = Some m

-- the cell after a change: its lock changed, and other starts rolled back where some are given
abbrev pub made : LockChange → Option (List ℕ) → Cell → Cell
made lock rolled c = record { key = c.key; lock = lock_after lock c.lock; commits = c.commits; rolled = unwrap_or rolled c.rolled }

abbrev pub made_by : Change → Cell → Cell
made_by x c = made x.lock x.rolled c

-- a cell after all of the changes that are of its key
abbrev pub all_made : List Change → Cell → Cell
all_made [] c = c
all_made (x ∷ xs) c = all_made xs (if key_eq x.key c.key then made_by x c else c)
