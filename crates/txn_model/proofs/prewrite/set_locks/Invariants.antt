use Rattle.std.proofs.Common.{◌≡◌, ◌≤◌, ◌+◌, reverse, vec_len, vec_capacity}
use Rattle.txn_model.specs.Cells.{Key, cell_at, AreKept}
use Rattle.txn_model.specs.Placings.{all_locked}
use Rattle.txn_model.proofs.prewrite.set_locks.Given as goal

abbrev pub invariant-loop-placing : goal.invariant-loop-placing
invariant-loop-placing l = record {
  kept : AreKept l.cells.items;
  room : vec_len l.cells + vec_len l.placings ≤ vec_capacity l.cells;
  capacity : vec_capacity l.initial.cells ≤ vec_capacity l.cells;
  few : vec_len l.cells + vec_len l.placings ≤ vec_len l.initial.cells + vec_len l.initial.placings;
  cells : (k : Key) → all_locked (reverse l.placings.items) (cell_at l.cells.items k) ≡ all_locked (reverse l.initial.placings.items) (cell_at l.initial.cells.items k);
}

abbrev pub decreases-loop-placing : goal.decreases-loop-placing
decreases-loop-placing l = vec_len l.placings
