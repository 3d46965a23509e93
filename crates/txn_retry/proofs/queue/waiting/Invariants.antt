use Rattle.std.proofs.Common.{◌≡◌, replicate}
use Rattle.txn_retry.specs.declared.place.Place.TheVariants.{Waiting}
use Rattle.txn_retry.proofs.queue.waiting.Given as goal

abbrev pub invariant-loop : goal.invariant-loop
invariant-loop g l = l.places.items ≡ replicate (l.counter) Waiting
