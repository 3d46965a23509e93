-- A commit and a rollback by plans that post one request for each key.
use Rattle.std.proofs.Common.{max}
use Rattle.std.proofs.Math.Nat.{le-max_left, le-max_right}
use Rattle.std.specs.Prelude.{◌≤◌, ◌+◌, ◌*◌, ◌∷◌, List, length}
use Rattle.txn_buffer.specs.Contents.{mutations}
use Rattle.txn_commit.specs.Parts.{parts_of}
use Rattle.txn_commit.specs.Ways.{IsOneEach, Ways}
use Rattle.txn_core.proofs.Adding.{commit_price_le, plainly, rollback_price_le, runs_pay}
use Rattle.txn_core.specs.Counting.{commit_price, errors, posted, rollback_price, standing_after, transaction_width, weighed, Runs, Step}

module _ {P : Type 0} (w : Ways P) (one : IsOneEach w.costs) (first : Step P) (steps : List (Step P)) where
  pub frugal_commit : Runs w w.costs (commit_price w.costs (parts_of first.old.contents) first.old.commits.timestamp) first steps → posted (first ∷ steps) ≤ (1 + errors steps) * (2 * length (mutations first.old.contents.entries) + 9 + weighed steps)
  frugal_commit r = plainly _ _ (weighed steps) (errors steps) _ (commit_price_le w.costs first.old.contents first.old.commits.timestamp (max 1 (transaction_width w (standing_after first.new steps))) one) (runs_pay _ w.costs (commit_price w.costs (parts_of first.old.contents) first.old.commits.timestamp) first steps (max 1 (transaction_width w (standing_after first.new steps))) r (le-max_left 1 _) (le-max_right 1 _))

  pub frugal_rollback : Runs w w.costs (rollback_price w.costs (parts_of first.old.contents)) first steps → posted (first ∷ steps) ≤ (1 + errors steps) * (2 * length (mutations first.old.contents.entries) + 9 + weighed steps)
  frugal_rollback r = plainly _ _ (weighed steps) (errors steps) _ (rollback_price_le w.costs first.old.contents (max 1 (transaction_width w (standing_after first.new steps))) one) (runs_pay _ w.costs (rollback_price w.costs (parts_of first.old.contents)) first steps (max 1 (transaction_width w (standing_after first.new steps))) r (le-max_left 1 _) (le-max_right 1 _))
