use Rattle.std.proofs.Common.{◌≡◌, ℕ, ◌<◌, ◌≤◌, true, length, take, get_or}
use Rattle.std.specs.Prelude.{nat_le}
use Rattle.txn_model.specs.declared.cell.Write.{Write}
use Rattle.txn_model.specs.Locks.{last_written}
use Rattle.txn_model.proofs.commits.last_written.Given as goal

abbrev pub invariant-loop-left : goal.invariant-loop-left
invariant-loop-left l = record {
  in_range : l.left ≤ length l.commits;
  until : (i : ℕ) (d : Write) → i < l.left → nat_le (get_or l.commits i d).commit l.at ≡ true;
  found : last_written l.commits l.at ≡ last_written (take l.left l.commits) l.at;
}

abbrev pub decreases-loop-left : goal.decreases-loop-left
decreases-loop-left l = l.left
