use Rattle.std.proofs.Common.{◌≡◌, map}
use Rattle.txn_retry.specs.Outcome.{in_place}
use Rattle.txn_retry.proofs.outcome.keep_all.Given as goal

abbrev pub invariant-loop-outcome : goal.invariant-loop-outcome
invariant-loop-outcome g l = l.results.items ≡ map in_place l.yielded
