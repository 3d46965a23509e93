use Rattle.txn_commit.proofs.Going.{heard_other}
use Rattle.txn_commit.proofs.laws.others_are_not_followed.Goals as goal

pub returns : goal.returns
returns c a o commits e = heard_other a o commits e
