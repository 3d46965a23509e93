use Rattle.txn_commit.proofs.Following.{knows_answered, knows_lost}
use Rattle.txn_commit.proofs.laws.commits_are_followed.Goals as goal

pub returns-clause-answered : goal.returns-clause-answered
returns-clause-answered c = knows_answered

pub returns-clause-lost : goal.returns-clause-lost
returns-clause-lost c plan s commits t q h known k = knows_lost plan s commits t q h k
