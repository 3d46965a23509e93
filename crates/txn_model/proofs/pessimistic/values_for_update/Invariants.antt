use Rattle.std.proofs.Common.{◌≡◌, take, map}
use Rattle.txn_model.specs.Cells.{cell_at}
use Rattle.txn_model.specs.PessimisticLock.{value_for_update, value_or_empty}
use Rattle.txn_model.proofs.pessimistic.values_for_update.Given as goal

abbrev pub invariant-loop-mutation : goal.invariant-loop-mutation
invariant-loop-mutation l = l.values ≡ map value_or_empty (map (λ m. value_for_update l.request (cell_at l.cells m.key)) (take l.mutation-index l.mutation-items))
