use Rattle.std.proofs.Common.{[], ◌∷◌, ◌∙◌, ap}
use Rattle.txn_model.specs.Cells.{cell_at, changed_at}
use Rattle.txn_model.specs.Rules.{changed_by}
use Rattle.txn_model.specs.Status.{finding}
use Rattle.txn_model.specs.Statuses.{status_rule}
use Rattle.txn_model.proofs.Ruling.{status_ruled}
use Rattle.txn_model.proofs.status.settle_status.Goals as goal

pub returns-clause-ok : goal.returns-clause-ok
returns-clause-ok c =
    let r = c.args.request.now in
    let k = r.primary_key in
    let cs = c.args.cells.now.items in
    c.in_ok-change_one.ensures.ok
    ∙ (ap (λ rule. changed_at (k ∷ []) (changed_by rule) cs) (c.status_rule-rule.ensures ∙ ap (λ xs. status_rule r (finding r (cell_at xs k))) c.as_slice.ensures.value)
    ∙ status_ruled r (finding r (cell_at cs k)) (k ∷ []) cs)
