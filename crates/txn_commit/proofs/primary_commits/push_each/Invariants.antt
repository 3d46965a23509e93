use Rattle.std.proofs.Common.{◌≡◌, ◌++◌, drop}
use Rattle.txn_commit.specs.Following.{commit_tickets}
use Rattle.txn_commit.proofs.primary_commits.push_each.Given as goal

abbrev pub invariant-loop-index : goal.invariant-loop-index
invariant-loop-index l = l.tickets.items ++ commit_tickets l.line l.beat (drop l.index l.errands) ≡ l.initial.tickets.items ++ commit_tickets l.line l.beat (drop l.had l.errands)
