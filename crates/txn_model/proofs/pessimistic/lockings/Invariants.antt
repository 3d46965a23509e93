use Rattle.std.proofs.Common.{◌≡◌, take, map}
use Rattle.txn_model.specs.Cells.{cell_at}
use Rattle.txn_model.specs.Locking.{locking}
use Rattle.txn_model.specs.Prewrite.{mutation_keys}
use Rattle.txn_model.proofs.pessimistic.lockings.Given as goal

abbrev pub invariant-loop-mutation : goal.invariant-loop-mutation
invariant-loop-mutation l = l.changes.items ≡ map (λ k. locking l.request k (cell_at l.cells k)) (mutation_keys (take l.mutation-index l.mutation-items))
