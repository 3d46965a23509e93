use Rattle.txn_commit_plans.specs.CausesOfCalls.{call_explained, marked_named, refusal_sent, untimed_explained}
use Rattle.txn_commit_plans.proofs.laws.failed_calls_have_causes.Goals as goal

pub returns-clause-failed : goal.returns-clause-failed
returns-clause-failed g c options start contents d h e x =
    call_explained g.P.Plans.ways g.met.P.Caused.caused.unwritten g.met.P.Caused.caused.uncommitted g.met.P.Caused.caused.unrolled options start contents d h e x

pub returns-clause-refused : goal.returns-clause-refused
returns-clause-refused g c = refusal_sent

pub returns-clause-marked : goal.returns-clause-marked
returns-clause-marked g c = marked_named

pub returns-clause-untimed : goal.returns-clause-untimed
returns-clause-untimed g c = untimed_explained

pub returns-clause-jobs : goal.returns-clause-jobs
returns-clause-jobs g c plan keys job h e x = g.met.P.Caused.caused.uncommitted job.retry_options h e x
