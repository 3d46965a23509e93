use Rattle.txn_commit.proofs.committer.CommitterCall.commit_again.Goals as goal

pub returns-clause-moves : goal.returns-clause-moves
returns-clause-moves g c = c.commit_primary.ensures.moves
