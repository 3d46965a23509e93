use Rattle.txn_commit.specs.Jobs.{others-lawful}
use Rattle.txn_core.proofs.laws.jobs_last.Goals as goal

pub returns : goal.returns
returns g c plan keys job o p h longer l w f = (others-lawful g.P.Plans.ways.plan g.met.P.Plans.lawful g.P.Plans.ways.uncommitted g.P.Plans.ways.costs.commits plan keys g.met.P.Plans.lasting.uncommitted).fits_longer job o p h longer l w f
