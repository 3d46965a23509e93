use Rattle.std.proofs.Common.{◌≡◌, sym, ◌∙◌, subst}
use Rattle.txn_model.specs.declared.cell.Cell.{Cell}
use Rattle.txn_model.specs.Cells.{cell_at}
use Rattle.txn_model.specs.Orderly.{CommitsAscend}
use Rattle.txn_model.proofs.PlacesInOrder.{cell_found, cell_in_gap}
use Rattle.txn_model.proofs.cells.find.Goals as goal

pub returns-in-Ok-clause-value : goal.returns-in-Ok-clause-value
returns-in-Ok-clause-value c = c.index-cells-at.is ∙ sym (cell_found c.args.cells.now c.args.key.now c.in-Ok.at c.index-cells-at.result c.requires c.in-Ok.ensures.found)

pub returns-in-Ok-clause-commits : goal.returns-in-Ok-clause-commits
returns-in-Ok-clause-commits c = λ ordered.
    let here : c.index-cells-at.result ≡ cell_at c.args.cells.now c.args.key.now = returns-in-Ok-clause-value c in
    subst (λ (x : Cell). CommitsAscend x.commits) (sym here) (ordered c.args.key.now).commits

pub returns-in-Err-clause-value : goal.returns-in-Err-clause-value
returns-in-Err-clause-value c = sym (cell_in_gap c.args.cells.now c.args.key.now _ c.in-Err.ensures.absent)
