use Rattle.std.proofs.Common.{◌≡◌, drop}
use Rattle.txn_model.specs.Rollback.{first_rollback_error}
use Rattle.txn_model.proofs.rollback.first_rollback_error.Given as goal

abbrev pub invariant-loop-key : goal.invariant-loop-key
invariant-loop-key l = first_rollback_error l.cells l.start (drop l.key-index l.keys) ≡ first_rollback_error l.cells l.start l.keys
