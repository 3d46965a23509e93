use Rattle.std.proofs.Common.{◌≡◌, ◌++◌, drop}
use Rattle.txn_model.specs.Settling.{changes}
use Rattle.txn_model.proofs.settle.changes.Given as goal

abbrev pub invariant-loop-cell : goal.invariant-loop-cell
invariant-loop-cell l = l.all.items ++ changes l.regions l.request (drop l.cell-index l.cells) ≡ changes l.regions l.request l.cells
