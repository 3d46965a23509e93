use Rattle.std.proofs.Common.{◌≡◌, take, map}
use Rattle.std.specs.Prelude.{is_none}
use Rattle.txn_model.specs.Cells.{cell_at}
use Rattle.txn_model.specs.PessimisticLock.{value_for_update}
use Rattle.txn_model.proofs.pessimistic.not_founds.Given as goal

abbrev pub invariant-loop-mutation : goal.invariant-loop-mutation
invariant-loop-mutation l = l.flags ≡ map is_none (map (λ m. value_for_update l.request (cell_at l.cells m.key)) (take l.mutation-index l.mutation-items))
