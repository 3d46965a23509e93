-- How requests change the cells of their keys, and what they make ready for it.
use Rattle.std.specs.Prelude.{ℕ, Bool, true, false, not, ◌&&◌, if◌then◌else◌, Some, None}
use Rattle.txn_model.specs.declared.cell.Cell.{Cell}
use Rattle.txn_model.specs.declared.change.Change.{Change}
use Rattle.txn_model.specs.declared.change.LockChange.{LockChange}
use Rattle.txn_model.specs.declared.change.LockChange.TheVariants.{Stays, Goes}
use Rattle.txn_model.specs.declared.rule.Rule.{Rule}
use Rattle.txn_model.specs.declared.rule.Rule.TheVariants.{RollBack, RollBackMissing, Release, ReleaseUpTo, Stay}
use Rattle.txn_model.specs.Cells.{Key}
use Rattle.txn_model.specs.Locks.{owns, holds}
use Rattle.txn_model.specs.Rollback.{is_for_update_by, released_by}
use Rattle.txn_model.specs.Settle.{with_start, rolled_back, released}
use Rattle.txn_model.specs.Status.{is_missing, missing_rolled_back}

abbrev pub changed_by : Rule → Cell → Cell
changed_by (RollBack s) c = rolled_back s c
changed_by (RollBackMissing s) c = missing_rolled_back s c
changed_by (Release s) c = released s c
changed_by (ReleaseUpTo s f) c = released_by s f c
changed_by Stay c = c

abbrev pub goes_if : Bool → LockChange
goes_if true = Goes
goes_if false = Stays

abbrev pub rolling_back : ℕ → Key → Cell → Change
rolling_back s k c = record { key = k; lock = goes_if (holds c.lock s); rolled = Some (with_start s c.rolled) }

-- the lock goes where a test says so, and nothing is recorded
abbrev pub unlocking : Bool → Key → Change
unlocking b k = record { key = k; lock = goes_if b; rolled = None }

-- the start holds a pessimistic lock
abbrev pub holds_pessimistic : ℕ → Cell → Bool
holds_pessimistic s c = holds c.lock s && not (owns c.lock s)

abbrev pub change_of : Rule → Key → Cell → Change
change_of (RollBack s) k c = rolling_back s k c
change_of (RollBackMissing s) k c = if is_missing s c then rolling_back s k c else unlocking false k
change_of (Release s) k c = unlocking (holds_pessimistic s c) k
change_of (ReleaseUpTo s f) k c = unlocking (holds_pessimistic s c && is_for_update_by f c.lock) k
change_of Stay k c = unlocking false k
