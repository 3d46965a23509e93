use Rattle.std.proofs.Common.{◌≡◌, ◌++◌}
use Rattle.txn_merge.specs.Joined.{pairs_of_gets}
use Rattle.txn_merge.proofs.collect.join_gets.Given as goal

abbrev pub invariant-loop-reply : goal.invariant-loop-reply
invariant-loop-reply l = l.pairs.items ++ pairs_of_gets l.reply-iterator.rest.items ≡ pairs_of_gets l.initial.reply-iterator.rest.items
