use Rattle.std.proofs.Common.{max}
use Rattle.std.proofs.Math.Nat.{le-max_left, le-max_right}
use Rattle.txn_commit.specs.Parts.{parts_of}
use Rattle.txn_core.specs.Counting.{commit_price, errors, rollback_price, standing_after, transaction_width, weighed}
use Rattle.txn_core.proofs.Adding.{commit_price_le, plainly, rollback_price_le, runs_pay}
use Rattle.txn_core.proofs.laws.commits_are_bounded.Goals as goal

pub returns-clause-commit : goal.returns-clause-commit
returns-clause-commit g c costs first steps one r = plainly _ _ (weighed steps) (errors steps) _ (commit_price_le costs first.old.contents first.old.commits.timestamp (max 1 (transaction_width g.P.Plans.ways (standing_after first.new steps))) one) (runs_pay _ costs (commit_price costs (parts_of first.old.contents) first.old.commits.timestamp) first steps (max 1 (transaction_width g.P.Plans.ways (standing_after first.new steps))) r (le-max_left 1 _) (le-max_right 1 _))

pub returns-clause-rollback : goal.returns-clause-rollback
returns-clause-rollback g c costs first steps one r = plainly _ _ (weighed steps) (errors steps) _ (rollback_price_le costs first.old.contents (max 1 (transaction_width g.P.Plans.ways (standing_after first.new steps))) one) (runs_pay _ costs (rollback_price costs (parts_of first.old.contents)) first steps (max 1 (transaction_width g.P.Plans.ways (standing_after first.new steps))) r (le-max_left 1 _) (le-max_right 1 _))
