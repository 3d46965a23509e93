use Rattle.txn_core.proofs.Ending.{ends_checked, ends_committed, ends_rolled_back, ends_with_job}
use Rattle.txn_core.proofs.laws.ends_stand.Goals as goal

pub returns-clause-committed : goal.returns-clause-committed
returns-clause-committed g c options start t contents d h job x = ends_committed g.P.Plans.ways options start t contents d h job x

pub returns-clause-job : goal.returns-clause-job
returns-clause-job g c options start t contents d o h job x = ends_with_job g.P.Plans.ways options start t contents d o h job x

pub returns-clause-checked : goal.returns-clause-checked
returns-clause-checked g c options start contents d h job x = ends_checked g.P.Plans.ways options start contents d h job x

pub returns-clause-rolled_back : goal.returns-clause-rolled_back
returns-clause-rolled_back g c options start contents d h x = ends_rolled_back g.P.Plans.ways options start contents d h x
