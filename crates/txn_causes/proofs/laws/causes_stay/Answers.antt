use Rattle.txn_causes.specs.Causes.{has_cause_more}
use Rattle.txn_causes.specs.Heard.{heard_longer}
use Rattle.txn_causes.specs.Spent.{spent_more}
use Rattle.txn_causes.proofs.laws.causes_stay.Goals as goal

pub returns : goal.returns
returns c = λ h longer attempts error w k. has_cause_more (heard_longer h longer w) (spent_more (heard_longer h longer w) attempts) error k
