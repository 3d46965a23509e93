use Rattle.std.proofs.Common.{◌≡◌, ◌≤◌, take, length}
use Rattle.txn_model.specs.Resolve.{locks_until}
use Rattle.txn_model.proofs.scan.first_locks.Given as goal

abbrev pub invariant-loop-cell : goal.invariant-loop-cell
invariant-loop-cell l = record {
  so_far : l.locks ≡ locks_until l.until (take l.cell-index l.cells);
  few : length l.locks ≤ l.limit;
}
