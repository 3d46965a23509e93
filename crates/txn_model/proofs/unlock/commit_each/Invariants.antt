use Rattle.std.proofs.Common.{◌≡◌, ◌≤◌, length, take, reverse, vec_len, vec_capacity}
use Rattle.txn_model.specs.Cells.{Key, cell_at, AreKept}
use Rattle.txn_model.specs.Settling.{all_committed}
use Rattle.txn_model.specs.Unlocks.{all_undone, CanUndoAll}
use Rattle.txn_model.proofs.unlock.commit_each.Given as goal

abbrev pub invariant-loop-one : goal.invariant-loop-one
invariant-loop-one l = record {
  kept : AreKept l.cells.items;
  few : vec_len l.done ≤ l.one-index;
  room : length l.commitments ≤ vec_capacity l.done;
  can : CanUndoAll (reverse l.done.items) l.cells.items;
  back : all_undone (reverse l.done.items) l.cells.items ≡ l.initial.cells.items;
  cells : (k : Key) → cell_at l.cells.items k ≡ all_committed (take l.one-index l.commitments) (cell_at l.initial.cells.items k);
  len : vec_len l.cells ≡ vec_len l.initial.cells;
  capacity : vec_capacity l.initial.cells ≤ vec_capacity l.cells;
}
