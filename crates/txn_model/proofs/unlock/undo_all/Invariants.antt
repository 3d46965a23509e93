use Rattle.std.proofs.Common.{◌≡◌, ◌≤◌, reverse, vec_len, vec_capacity}
use Rattle.txn_model.specs.Unlocks.{all_undone, CanUndoAll}
use Rattle.txn_model.proofs.unlock.undo_all.Given as goal

abbrev pub invariant-loop-unlocked : goal.invariant-loop-unlocked
invariant-loop-unlocked l = record {
  can : CanUndoAll (reverse l.done.items) l.cells.items;
  capacity : vec_capacity l.initial.cells ≤ vec_capacity l.cells;
  same : all_undone (reverse l.done.items) l.cells.items ≡ all_undone (reverse l.initial.done.items) l.initial.cells.items;
}

abbrev pub decreases-loop-unlocked : goal.decreases-loop-unlocked
decreases-loop-unlocked l = vec_len l.done
