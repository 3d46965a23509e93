use Rattle.std.proofs.Common.{◌∙◌, ap, ap₂, map, ◌≡◌}
use Rattle.txn_model.specs.Cells.{cell_at, changed_at}
use Rattle.txn_model.specs.Changes.{all_made}
use Rattle.txn_model.specs.Rules.{change_of, changed_by}
use Rattle.txn_model.proofs.Ruling.{ruled}
use Rattle.txn_model.proofs.OrderlyCells.{orderly_ruled}
use Rattle.txn_model.proofs.rule.change_all.Goals as goal

pub returns-clause-ok : goal.returns-clause-ok
returns-clause-ok c =
    let made_ready = c.in_ok-changes.ensures ∙ ap (λ cs. map (λ k. change_of c.args.rule k (cell_at cs k)) c.args.keys.now) c.as_slice.ensures.value in
    ruled c.args.rule c.args.keys.now c.args.cells.now.items c.make_changes.new.cells.items c.requires.kept c.make_changes.ensures.kept
    (λ j. c.make_changes.ensures.cells j ∙ ap₂ (λ xs cs. all_made xs (cell_at cs j)) made_ready c.in_ok-reserve.ensures.items)

pub returns-clause-ordered : goal.returns-clause-ordered
returns-clause-ordered c =
    let same : c.make_changes.new.cells.items ≡ changed_at c.args.keys.now (changed_by c.args.rule) c.args.cells.now.items = returns-clause-ok c in
    rw same (orderly_ruled c.args.rule c.args.keys.now c.args.cells.now.items c.requires.kept.in_order c.requires.ordered)
