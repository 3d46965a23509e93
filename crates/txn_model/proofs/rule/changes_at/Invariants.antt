use Rattle.std.proofs.Common.{◌≡◌, take, map}
use Rattle.txn_model.specs.Cells.{cell_at}
use Rattle.txn_model.specs.Rules.{change_of}
use Rattle.txn_model.proofs.rule.changes_at.Given as goal

abbrev pub invariant-loop-key : goal.invariant-loop-key
invariant-loop-key l = l.changes.items ≡ map (λ k. change_of l.rule k (cell_at l.cells k)) (take l.key-index l.keys)
