use Rattle.txn_model.proofs.TableFacts.{prewrite_becomes, pessimistic_becomes}
use Rattle.txn_model.proofs.facts.locks_leave.Goals as goal

pub returns-clause-prewrite : goal.returns-clause-prewrite
returns-clause-prewrite c = λ st r kept orderly k l e p. prewrite_becomes st r kept orderly k l e p

pub returns-clause-pessimistic : goal.returns-clause-pessimistic
returns-clause-pessimistic c = λ st r kept orderly k l e p. pessimistic_becomes st r kept orderly k l e p
