use Rattle.txn_model.proofs.TableFacts.{prewrite_comes, commit_comes, rollback_comes}
use Rattle.txn_model.proofs.facts.what_is_kept_comes.Goals as goal

pub returns-clause-prewrite_locks : goal.returns-clause-prewrite_locks
returns-clause-prewrite_locks c = λ st r kept orderly k s h. prewrite_comes st r kept orderly k s h

pub returns-clause-commits : goal.returns-clause-commits
returns-clause-commits c = λ st r kept orderly k s w h. commit_comes st r kept orderly k s w h

pub returns-clause-rollbacks : goal.returns-clause-rollbacks
returns-clause-rollbacks c = λ st r kept orderly k s h. rollback_comes st r kept orderly k s h
