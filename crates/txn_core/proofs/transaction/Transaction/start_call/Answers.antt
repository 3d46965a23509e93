use Rattle.std.proofs.Common.{◌∙◌, sym}
use Rattle.txn_history.specs.Moves.{Moves-before}
use Rattle.txn_history.specs.Turn.{IfKept-all}
use Rattle.txn_commit.proofs.Posting.{followed_same}
use Rattle.txn_core.proofs.Going.{may_again}
use Rattle.txn_core.proofs.transaction.Transaction.start_call.Goals as goal

pub returns-in-Some-clause-moves : goal.returns-in-Some-clause-moves
returns-in-Some-clause-moves g c = Moves-before (λ h f. (f.0, may_again _ _ _ _ h (sym c.commit_time.ensures.time ∙ c.in-Some.is) f.1)) c.commit_again.ensures.moves

pub returns-in-Some-clause-counts : goal.returns-in-Some-clause-counts
returns-in-Some-clause-counts g c = rw (sym c.commit_time.ensures.time ∙ c.in-Some.is) c.commit_again.ensures.counts

pub returns-in-None-clause-follows : goal.returns-in-None-clause-follows
returns-in-None-clause-follows g c = IfKept-all _ (followed_same c.args.out.now c.args.self.now.commits)
