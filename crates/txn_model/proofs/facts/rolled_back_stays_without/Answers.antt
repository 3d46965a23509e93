use Rattle.txn_model.proofs.TableFacts.{rolled_gets_nothing}
use Rattle.txn_model.proofs.facts.rolled_back_stays_without.Goals as goal

pub returns : goal.returns
returns c = λ st r kept orderly k s h. rolled_gets_nothing st r kept orderly k s h
