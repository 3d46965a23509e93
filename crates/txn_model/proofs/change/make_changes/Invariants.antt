use Rattle.std.proofs.Common.{◌≡◌, ◌≤◌, ◌+◌, reverse, vec_len, vec_capacity}
use Rattle.txn_model.specs.Cells.{Key, cell_at, AreKept}
use Rattle.txn_model.specs.Changes.{all_made}
use Rattle.txn_model.proofs.change.make_changes.Given as goal

abbrev pub invariant-loop-change : goal.invariant-loop-change
invariant-loop-change l = record {
  kept : AreKept l.cells.items;
  room : vec_len l.cells + vec_len l.changes ≤ vec_capacity l.cells;
  cells : (k : Key) → all_made (reverse l.changes.items) (cell_at l.cells.items k) ≡ all_made (reverse l.initial.changes.items) (cell_at l.initial.cells.items k);
}

abbrev pub decreases-loop-change : goal.decreases-loop-change
decreases-loop-change l = vec_len l.changes
