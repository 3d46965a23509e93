use Rattle.std.proofs.Common.{sym, ◌∙◌, ap}
use Rattle.txn_model.specs.Changes.{made}
use Rattle.txn_model.proofs.PlacesInOrder.{changed_set, changed_insert, changed_remove, changed_gap, kept_set, kept_insert, kept_remove}
use Rattle.txn_model.proofs.change.make_change.Goals as goal

pub returns-then-is_empty-clause-cells : goal.returns-then-is_empty-clause-cells
returns-then-is_empty-clause-cells c =
    let is = rw c.as_slice.ensures.value at c.in-Ok.ensures.found in
    rw c.remove.ensures.items (changed_remove c.args.cells.now.items c.args.change.key c.in-Ok.at c.index_mut-cell.result.now c.make.new.cell (made c.args.change.lock c.args.change.rolled) c.requires.kept.in_order is c.index_mut-cell.ensures.value c.make.ensures (ap (λ x. x.key) c.make.ensures ∙ (ap (λ x. x.key) c.index_mut-cell.ensures.value ∙ is.has_key c.index_mut-cell.result.now)) (sym c.is_empty.ensures ∙ c.if-is_empty.true))

pub returns-then-is_empty-clause-kept : goal.returns-then-is_empty-clause-kept
returns-then-is_empty-clause-kept c = rw c.remove.ensures.items (kept_remove c.args.cells.now.items c.in-Ok.at c.make.new.cell c.requires.kept)

pub returns-else-is_empty-clause-cells : goal.returns-else-is_empty-clause-cells
returns-else-is_empty-clause-cells c =
    let is = rw c.as_slice.ensures.value at c.in-Ok.ensures.found in
    changed_set c.args.cells.now.items c.args.change.key c.in-Ok.at c.index_mut-cell.result.now c.make.new.cell (made c.args.change.lock c.args.change.rolled) c.requires.kept.in_order is c.index_mut-cell.ensures.value c.make.ensures (ap (λ x. x.key) c.make.ensures ∙ (ap (λ x. x.key) c.index_mut-cell.ensures.value ∙ is.has_key c.index_mut-cell.result.now))

pub returns-else-is_empty-clause-kept : goal.returns-else-is_empty-clause-kept
returns-else-is_empty-clause-kept c =
    let is = rw c.as_slice.ensures.value at c.in-Ok.ensures.found in
    kept_set c.args.cells.now.items c.args.change.key c.in-Ok.at c.make.new.cell c.requires.kept is (ap (λ x. x.key) c.make.ensures ∙ (ap (λ x. x.key) c.index_mut-cell.ensures.value ∙ is.has_key c.index_mut-cell.result.now)) (sym c.is_empty.ensures ∙ c.if-is_empty.false)

pub returns-then-not-is_empty-clause-cells : goal.returns-then-not-is_empty-clause-cells
returns-then-not-is_empty-clause-cells c =
    let makes = c.make-in-Err.ensures ∙ ap (made c.args.change.lock c.args.change.rolled) c.empty-cell.ensures in
    rw c.insert_within.ensures.items (changed_insert c.args.cells.now.items c.args.change.key c.in-Err.at c.make-in-Err.new.cell (made c.args.change.lock c.args.change.rolled) (rw c.as_slice.ensures.value at c.in-Err.ensures.absent) makes (ap (λ x. x.key) makes))

pub returns-then-not-is_empty-clause-kept : goal.returns-then-not-is_empty-clause-kept
returns-then-not-is_empty-clause-kept c =
    let makes = c.make-in-Err.ensures ∙ ap (made c.args.change.lock c.args.change.rolled) c.empty-cell.ensures in
    rw c.insert_within.ensures.items (kept_insert c.args.cells.now.items c.args.change.key c.in-Err.at c.make-in-Err.new.cell c.requires.kept (rw c.as_slice.ensures.value at c.in-Err.ensures.absent) (ap (λ x. x.key) makes) (sym c.is_empty-in-Err.ensures ∙ c.if-not-is_empty.true))

pub returns-else-not-is_empty-clause-cells : goal.returns-else-not-is_empty-clause-cells
returns-else-not-is_empty-clause-cells c =
    let makes = c.make-in-Err.ensures ∙ ap (made c.args.change.lock c.args.change.rolled) c.empty-cell.ensures in
    changed_gap c.args.cells.now.items c.args.change.key c.in-Err.at c.make-in-Err.new.cell (made c.args.change.lock c.args.change.rolled) (rw c.as_slice.ensures.value at c.in-Err.ensures.absent) makes (ap (λ x. x.key) makes) (sym c.is_empty-in-Err.ensures ∙ c.if-not-is_empty.false)
