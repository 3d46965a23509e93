use Rattle.std.proofs.Common.{◌≡◌, drop}
use Rattle.std.specs.List.{list_any}
use Rattle.txn_model.specs.Cells.{cell_at}
use Rattle.txn_model.specs.Prewrite.{is_plain_lock}
use Rattle.txn_model.proofs.bounds.any_plain_lock.Given as goal

abbrev pub invariant-loop-mutation : goal.invariant-loop-mutation
invariant-loop-mutation l = list_any (λ m. is_plain_lock l.start (cell_at l.cells m.key).lock) (drop l.mutation-index l.mutations) ≡ list_any (λ m. is_plain_lock l.start (cell_at l.cells m.key).lock) l.mutations
