use Rattle.std.proofs.Common.{not, sym, ap, ◌∙◌}
use Rattle.txn_model.proofs.Locking.{locked_set, kept_locked_set, locked_same, kept_same, locked_insert, kept_locked_insert, missing_stands}
use Rattle.txn_model.proofs.prewrite.set_lock.Goals as goal

pub returns-then-is_missing-clause-cells : goal.returns-then-is_missing-clause-cells
returns-then-is_missing-clause-cells c =
    locked_set c.args.cells.now.items c.args.placing c.in-Ok.at c.index_mut-cell.result.now c.requires.kept (rw c.as_slice.ensures.value at c.in-Ok.ensures.found) c.index_mut-cell.ensures.value (missing_stands c.index_mut-cell.result.now c.args.placing.lock.start ∙ ap not (sym c.is_missing.ensures ∙ c.if-is_missing.true))

pub returns-then-is_missing-clause-kept : goal.returns-then-is_missing-clause-kept
returns-then-is_missing-clause-kept c =
    kept_locked_set c.args.cells.now.items c.args.placing c.in-Ok.at c.index_mut-cell.result.now c.requires.kept (rw c.as_slice.ensures.value at c.in-Ok.ensures.found) c.index_mut-cell.ensures.value

pub returns-else-is_missing-clause-cells : goal.returns-else-is_missing-clause-cells
returns-else-is_missing-clause-cells c =
    locked_same c.args.cells.now.items c.args.placing c.in-Ok.at c.index_mut-cell.result.now c.requires.kept (rw c.as_slice.ensures.value at c.in-Ok.ensures.found) c.index_mut-cell.ensures.value (missing_stands c.index_mut-cell.result.now c.args.placing.lock.start ∙ ap not (sym c.is_missing.ensures ∙ c.if-is_missing.false))

pub returns-else-is_missing-clause-kept : goal.returns-else-is_missing-clause-kept
returns-else-is_missing-clause-kept c =
    kept_same c.args.cells.now.items c.args.placing.key c.in-Ok.at c.index_mut-cell.result.now c.requires.kept (rw c.as_slice.ensures.value at c.in-Ok.ensures.found) c.index_mut-cell.ensures.value

pub returns-in-Err-clause-cells : goal.returns-in-Err-clause-cells
returns-in-Err-clause-cells c =
    rw (c.insert_within.ensures.items, c.empty-cell.ensures) (locked_insert c.args.cells.now.items c.args.placing c.in-Err.at (rw c.as_slice.ensures.value at c.in-Err.ensures.absent))

pub returns-in-Err-clause-kept : goal.returns-in-Err-clause-kept
returns-in-Err-clause-kept c =
    rw (c.insert_within.ensures.items, c.empty-cell.ensures) (kept_locked_insert c.args.cells.now.items c.args.placing c.in-Err.at c.requires.kept (rw c.as_slice.ensures.value at c.in-Err.ensures.absent))
