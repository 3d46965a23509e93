use Rattle.std.proofs.Common.{subst}
use Rattle.std.specs.Prelude.{Ok}
use Rattle.txn_clients.specs.Failing.{AskRests}
use Rattle.txn_clients.specs.Waiting.{IsNewAnswer}
use Rattle.txn_clients.specs.declared.answer.Answer.TheVariants.{Asked}
use Rattle.txn_clients.proofs.Settling.{if_ok_so}
use Rattle.txn_clients.proofs.endings.Ended.asked.Goals as goal

pub returns-in-Ok-Begun-clause-arises : goal.returns-in-Ok-Begun-clause-arises
returns-in-Ok-Begun-clause-arises g c = if_ok_so c.begun.result (λ x f new trace at line rests. f (subst (λ v. IsNewAnswer (Asked (Ok v))) c.in-Ok-Begun.field-0-is (subst (λ v. IsNewAnswer (Asked v)) c.in-Ok-Begun.is new)) trace at
    (subst (λ v. AskRests g.P.Plans.ways trace at line (Ok v)) c.in-Ok-Begun.field-0-is (subst (AskRests g.P.Plans.ways trace at line) c.in-Ok-Begun.is rests))) c.begun.ensures.arises

pub returns-in-Ok-Begun-clause-failed : goal.returns-in-Ok-Begun-clause-failed
returns-in-Ok-Begun-clause-failed g c = if_ok_so c.begun.result (λ x f e is. absurd (f e is)) c.begun.ensures.well

pub returns-in-Ok-Time-clause-failed : goal.returns-in-Ok-Time-clause-failed
returns-in-Ok-Time-clause-failed g c = if_ok_so c.timed.result (λ x f e is. absurd (f e is)) c.timed.ensures.well
