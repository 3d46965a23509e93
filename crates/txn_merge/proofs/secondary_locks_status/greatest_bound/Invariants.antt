use Rattle.std.proofs.Common.{◌≡◌, max, drop}
use Rattle.txn_merge.specs.Secondary.{bounds, greatest}
use Rattle.txn_merge.proofs.secondary_locks_status.greatest_bound.Given as goal

abbrev pub invariant-loop-lock : goal.invariant-loop-lock
invariant-loop-lock l = max l.bound (greatest (bounds (drop l.lock-index l.locks))) ≡ max l.initial.bound (greatest (bounds l.locks))
