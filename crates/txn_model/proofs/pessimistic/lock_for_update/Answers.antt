use Rattle.std.proofs.Common.{refl, ◌∙◌, ap, ap₂, map, ◌≡◌}
use Rattle.txn_model.specs.Cells.{cell_at, changed_at}
use Rattle.txn_model.specs.Changes.{all_made}
use Rattle.txn_model.specs.Locking.{locking}
use Rattle.txn_model.specs.PessimisticLock.{locked_for_update}
use Rattle.txn_model.specs.Prewrite.{mutation_keys}
use Rattle.txn_model.proofs.Changing.{ready_is_changed}
use Rattle.txn_model.proofs.OrderlyCells.{orderly_locks}
use Rattle.txn_model.proofs.pessimistic.lock_for_update.Goals as goal

pub returns-clause-ok : goal.returns-clause-ok
returns-clause-ok c =
    let r = c.args.request.now in
    let keys = mutation_keys r.mutations in
    let made_ready = c.in_ok-changes.ensures ∙ ap (λ cs. map (λ k. locking r k (cell_at cs k)) keys) c.as_slice.ensures.value in
    ready_is_changed (locking r) (locked_for_update r) (λ k d. refl) (λ d. refl) keys c.args.cells.now.items c.make_changes.new.cells.items c.requires.kept c.make_changes.ensures.kept
    (λ j. c.make_changes.ensures.cells j ∙ ap₂ (λ xs cs. all_made xs (cell_at cs j)) made_ready c.in_ok-reserve.ensures.items)

pub returns-clause-ordered : goal.returns-clause-ordered
returns-clause-ordered c =
    let r = c.args.request.now in
    let same : c.make_changes.new.cells.items ≡ changed_at (mutation_keys r.mutations) (locked_for_update r) c.args.cells.now.items = returns-clause-ok c in
    rw same (orderly_locks r (mutation_keys r.mutations) c.args.cells.now.items c.requires.kept.in_order c.requires.ordered)
