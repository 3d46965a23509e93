use Rattle.std.proofs.Common.{◌≡◌, take}
use Rattle.std.specs.List.{filter_map}
use Rattle.txn_model.specs.Cells.{cell_at}
use Rattle.txn_model.specs.PessimisticLock.{pessimistic_error}
use Rattle.txn_model.proofs.pessimistic.pessimistic_errors.Given as goal

abbrev pub invariant-loop-mutation : goal.invariant-loop-mutation
invariant-loop-mutation l = l.errors ≡ filter_map (λ m. pessimistic_error l.request m (cell_at l.cells m.key)) (take l.mutation-index l.mutation-items)
