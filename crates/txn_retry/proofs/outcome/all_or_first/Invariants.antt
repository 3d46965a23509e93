use Rattle.std.proofs.Common.{◌≡◌}
use Rattle.txn_retry.specs.Outcome.{all_or_first}
use Rattle.txn_retry.proofs.Outcomes.{led_by}
use Rattle.txn_retry.proofs.outcome.all_or_first.Given as goal

abbrev pub invariant-loop-outcome : goal.invariant-loop-outcome
invariant-loop-outcome g l = led_by l.results.items (all_or_first l.outcome-iterator.rest.items) ≡ all_or_first l.fn.outcomes.items
