use Rattle.txn_clients.proofs.Settling.{if_ok_so}
use Rattle.txn_clients.proofs.endings.Ended.called.Goals as goal

pub returns-in-Ok-Unit-clause-failed : goal.returns-in-Ok-Unit-clause-failed
returns-in-Ok-Unit-clause-failed g c = if_ok_so c.done.result (λ x f e is. absurd (f e is)) c.done.ensures.well

pub returns-in-Ok-Committed-clause-failed : goal.returns-in-Ok-Committed-clause-failed
returns-in-Ok-Committed-clause-failed g c = if_ok_so c.committed.result (λ x f e is. absurd (f e is)) c.committed.ensures.well
