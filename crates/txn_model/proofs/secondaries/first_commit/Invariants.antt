use Rattle.std.proofs.Common.{◌≡◌, drop}
use Rattle.txn_model.specs.Status.{first_commit}
use Rattle.txn_model.proofs.secondaries.first_commit.Given as goal

abbrev pub invariant-loop-key : goal.invariant-loop-key
invariant-loop-key l = first_commit l.cells l.start (drop l.key-index l.keys) ≡ first_commit l.cells l.start l.keys
