use Rattle.std.proofs.Common.{◌≡◌, drop, max}
use Rattle.txn_model.specs.Prewrite.{greatest_bound}
use Rattle.txn_model.proofs.bounds.greatest_bound.Given as goal

abbrev pub invariant-loop-mutation : goal.invariant-loop-mutation
invariant-loop-mutation l = max l.greatest (greatest_bound l.cells l.start (drop l.mutation-index l.mutations)) ≡ greatest_bound l.cells l.start l.mutations
