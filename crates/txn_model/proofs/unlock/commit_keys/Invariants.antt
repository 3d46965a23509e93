use Rattle.std.proofs.Common.{◌≡◌, ◌≤◌, if◌then◌else◌, length, take, reverse, vec_len, vec_capacity}
use Rattle.txn_model.specs.Cells.{Key, has_key, cell_at, AreKept}
use Rattle.txn_model.specs.Commit.{committed}
use Rattle.txn_model.specs.Unlocks.{all_undone, CanUndoAll}
use Rattle.txn_model.proofs.unlock.commit_keys.Given as goal

abbrev pub invariant-loop-key : goal.invariant-loop-key
invariant-loop-key l = record {
  kept : AreKept l.cells.items;
  few : vec_len l.done ≤ l.key-index;
  room : length l.keys ≤ vec_capacity l.done;
  can : CanUndoAll (reverse l.done.items) l.cells.items;
  back : all_undone (reverse l.done.items) l.cells.items ≡ l.initial.cells.items;
  cells : (k : Key) → cell_at l.cells.items k ≡ (if has_key (take l.key-index l.keys) k then committed l.start l.commit (cell_at l.initial.cells.items k) else cell_at l.initial.cells.items k);
}
