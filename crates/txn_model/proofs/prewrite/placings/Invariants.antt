use Rattle.std.proofs.Common.{◌≡◌, ◌++◌, drop}
use Rattle.txn_model.specs.Placings.{placings}
use Rattle.txn_model.proofs.prewrite.placings.Given as goal

abbrev pub invariant-loop-mutation : goal.invariant-loop-mutation
invariant-loop-mutation l = l.all.items ++ placings l.request l.bound (drop l.mutation-index l.mutation-items) ≡ placings l.request l.bound l.mutation-items
