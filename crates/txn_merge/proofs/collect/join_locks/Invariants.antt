use Rattle.std.proofs.Common.{◌≡◌, ◌++◌}
use Rattle.txn_merge.specs.Joined.{locks_of_scans}
use Rattle.txn_merge.proofs.collect.join_locks.Given as goal

abbrev pub invariant-loop-reply : goal.invariant-loop-reply
invariant-loop-reply l = l.locks.items ++ locks_of_scans l.reply-iterator.rest.items ≡ locks_of_scans l.initial.reply-iterator.rest.items
