use Rattle.std.proofs.Common.{◌∙◌, ap, if◌then◌else◌, ◌≡◌, [], ◌∷◌}
use Rattle.txn_model.specs.Cells.{cell_at, key_eq, changed_at}
use Rattle.txn_model.specs.Changes.{made_by}
use Rattle.txn_model.specs.Rules.{change_of, changed_by}
use Rattle.txn_model.proofs.Ruling.{ruled_one}
use Rattle.txn_model.proofs.OrderlyCells.{orderly_ruled}
use Rattle.txn_model.proofs.rule.change_one.Goals as goal

pub returns-clause-ok : goal.returns-clause-ok
returns-clause-ok c =
    let x = c.in_ok-change.change in
    let key = c.args.key.now in
    ruled_one c.args.rule key x c.args.cells.now.items c.make_change.new.cells.items c.requires.kept c.make_change.ensures.kept (c.in_ok-change.ensures ∙ ap (λ cs. change_of c.args.rule key (cell_at cs key)) c.as_slice.ensures.value)
    (λ j. c.make_change.ensures.cells j ∙ ap (λ cs. if key_eq x.key j then made_by x (cell_at cs j) else cell_at cs j) c.in_ok-reserve.ensures.items)

pub returns-clause-ordered : goal.returns-clause-ordered
returns-clause-ordered c =
    let same : c.make_change.new.cells.items ≡ changed_at (c.args.key.now ∷ []) (changed_by c.args.rule) c.args.cells.now.items = returns-clause-ok c in
    rw same (orderly_ruled c.args.rule (c.args.key.now ∷ []) c.args.cells.now.items c.requires.kept.in_order c.requires.ordered)
