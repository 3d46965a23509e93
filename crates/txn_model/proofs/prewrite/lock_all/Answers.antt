use Rattle.std.proofs.Common.{ap₂, ◌∙◌, ◌≡◌}
use Rattle.txn_model.specs.Cells.{cell_at, changed_at}
use Rattle.txn_model.specs.Placings.{all_locked}
use Rattle.txn_model.proofs.Locking.{locked_is_changed}
use Rattle.txn_model.specs.Prewrite.{mutation_keys, prewrite_cell}
use Rattle.txn_model.proofs.OrderlyCells.{orderly_prewrites}
use Rattle.txn_model.proofs.prewrite.lock_all.Goals as goal

pub returns-clause-ok : goal.returns-clause-ok
returns-clause-ok c =
    locked_is_changed c.args.request.now c.args.bound c.args.cells.now.items c.set_locks.new.cells.items c.requires.kept c.set_locks.ensures.kept
    (λ j. c.set_locks.ensures.cells j ∙ ap₂ (λ ps cs. all_locked ps (cell_at cs j)) c.in_ok-ready.ensures c.in_ok-reserve.ensures.items)

pub returns-clause-ordered : goal.returns-clause-ordered
returns-clause-ordered c =
    let r = c.args.request.now in
    let same : c.set_locks.new.cells.items ≡ changed_at (mutation_keys r.mutations) (prewrite_cell r c.args.bound r.mutations) c.args.cells.now.items = returns-clause-ok c in
    rw same (orderly_prewrites r c.args.bound c.args.cells.now.items c.requires.kept.in_order c.requires.ordered c.requires.free)
