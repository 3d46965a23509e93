use Rattle.std.proofs.Common.{◌≡◌, ◌++◌, drop}
use Rattle.txn_model.specs.Settling.{commitments}
use Rattle.txn_model.proofs.settle.commitments.Given as goal

abbrev pub invariant-loop-cell : goal.invariant-loop-cell
invariant-loop-cell l = l.all.items ++ commitments l.regions l.request (drop l.cell-index l.cells) ≡ commitments l.regions l.request l.cells
