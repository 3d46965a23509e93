use Rattle.std.proofs.Common.{◌≡◌, ◌++◌}
use Rattle.txn_merge.specs.Joined.{pairs_of_scans}
use Rattle.txn_merge.proofs.collect.join_scans.Given as goal

abbrev pub invariant-loop-reply : goal.invariant-loop-reply
invariant-loop-reply l = l.pairs.items ++ pairs_of_scans l.reply-iterator.rest.items ≡ pairs_of_scans l.initial.reply-iterator.rest.items
