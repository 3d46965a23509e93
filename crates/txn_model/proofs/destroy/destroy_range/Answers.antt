use Rattle.std.proofs.Common.{◌≡◌, rules}
use Rattle.std.proofs.lemmas.Fn.{filter_same}
use Rattle.std.specs.Prelude.{not}
use Rattle.txn_model.specs.declared.cell.Cell.{Cell}
use Rattle.txn_model.specs.Destroy.{cells_outside}
use Rattle.txn_model.specs.Ranges.{in_range}
use Rattle.txn_model.proofs.Filtering.{kept_filter}
use Rattle.txn_model.proofs.OrderlyCells.{orderly_outside}
use Rattle.txn_model.proofs.destroy.destroy_range.Goals as goal

pub returns-clause-cells : goal.returns-clause-cells
returns-clause-cells c = filter_same _ _ _ (λ x b f' k. search rules) _ _ c.retain.ensures.filtered

pub returns-clause-kept : goal.returns-clause-kept
returns-clause-kept c =
    let same : c.retain.new.self.items ≡ cells_outside c.args.low.now c.args.high.now c.args.cells.now.items = filter_same _ _ _ (λ x b f' k. search rules) _ _ c.retain.ensures.filtered in
    rw same (kept_filter (λ (x : Cell). not (in_range c.args.low.now c.args.high.now x.key)) c.args.cells.now.items c.requires.kept)

pub returns-clause-ordered : goal.returns-clause-ordered
returns-clause-ordered c =
    let same : c.retain.new.self.items ≡ cells_outside c.args.low.now c.args.high.now c.args.cells.now.items = returns-clause-cells c in
    rw same (orderly_outside c.args.low.now c.args.high.now c.args.cells.now.items c.requires.ordered)
