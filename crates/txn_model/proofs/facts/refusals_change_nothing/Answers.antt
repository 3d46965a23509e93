use Rattle.txn_model.proofs.TableFacts.{region_error_leaves, refusal_leaves}
use Rattle.txn_model.proofs.facts.refusals_change_nothing.Goals as goal

pub returns-clause-region : goal.returns-clause-region
returns-clause-region c = λ st r kept e h. region_error_leaves st r kept e h

pub returns-clause-row : goal.returns-clause-row
returns-clause-row c = λ st r kept h. refusal_leaves st r kept h
