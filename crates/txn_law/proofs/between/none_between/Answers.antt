use Rattle.txn_law.proofs.Apart.{law_between}
use Rattle.txn_law.proofs.between.none_between.Goals as goal

pub returns : goal.returns
returns c = law_between
