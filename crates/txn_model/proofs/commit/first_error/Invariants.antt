use Rattle.std.proofs.Common.{◌≡◌, drop}
use Rattle.txn_model.specs.Commit.{first_commit_error}
use Rattle.txn_model.proofs.commit.first_error.Given as goal

abbrev pub invariant-loop-key : goal.invariant-loop-key
invariant-loop-key l = first_commit_error l.cells l.request (drop l.key-index l.key-items) ≡ first_commit_error l.cells l.request l.key-items
