use Rattle.txn_model.proofs.TableFacts.{commit_stays, rollback_stays}
use Rattle.txn_model.proofs.facts.commits_and_rollbacks_stay.Goals as goal

pub returns-clause-commits : goal.returns-clause-commits
returns-clause-commits c = λ st r kept orderly k s w h. commit_stays st r kept orderly k s w h

pub returns-clause-rollbacks : goal.returns-clause-rollbacks
returns-clause-rollbacks c = λ st r kept orderly k s h. rollback_stays st r kept orderly k s h
