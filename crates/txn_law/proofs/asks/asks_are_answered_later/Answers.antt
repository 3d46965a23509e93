use Rattle.txn_law.proofs.Asking.{law_given, law_asked}
use Rattle.txn_law.proofs.asks.asks_are_answered_later.Goals as goal

pub returns-clause-given : goal.returns-clause-given
returns-clause-given c = law_given

pub returns-clause-asked : goal.returns-clause-asked
returns-clause-asked c = law_asked
