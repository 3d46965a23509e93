use Rattle.std.proofs.Common.{◌≡◌, drop}
use Rattle.txn_model.specs.Status.{any_missing}
use Rattle.txn_model.proofs.secondaries.any_missing.Given as goal

abbrev pub invariant-loop-key : goal.invariant-loop-key
invariant-loop-key l = any_missing l.cells l.start (drop l.key-index l.keys) ≡ any_missing l.cells l.start l.keys
