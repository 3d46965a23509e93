use Rattle.txn_model.specs.Served.{others_stay}
use Rattle.txn_model.proofs.TableFacts.{last_stays}
use Rattle.txn_model.proofs.facts.numbers_never_fall.Goals as goal

pub returns-clause-others : goal.returns-clause-others
returns-clause-others c = others_stay

pub returns-clause-last : goal.returns-clause-last
returns-clause-last c = last_stays
