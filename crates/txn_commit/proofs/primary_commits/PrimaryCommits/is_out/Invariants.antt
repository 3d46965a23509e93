use Rattle.std.proofs.Common.{◌≡◌, drop}
use Rattle.std.specs.List.{list_any}
use Rattle.txn_history.specs.Event.{same_ticket}
use Rattle.txn_commit.proofs.primary_commits.PrimaryCommits.is_out.Given as goal

abbrev pub invariant-loop-out : goal.invariant-loop-out
invariant-loop-out l = list_any (λ u. same_ticket u l.ticket) (drop l.out-index l.self.out) ≡ list_any (λ u. same_ticket u l.ticket) l.self.out
