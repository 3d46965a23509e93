use Rattle.std.proofs.Common.{◌≡◌, drop}
use Rattle.txn_model.specs.Prewrite.{passed_commit}
use Rattle.txn_model.proofs.bounds.passed_commit.Given as goal

abbrev pub invariant-loop-mutation : goal.invariant-loop-mutation
invariant-loop-mutation l = passed_commit l.cells l.start (drop l.mutation-index l.mutations) ≡ passed_commit l.cells l.start l.mutations
