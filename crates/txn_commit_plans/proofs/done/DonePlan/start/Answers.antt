use Rattle.txn_commit_plans.proofs.Making.{done_steps}
use Rattle.txn_commit_plans.proofs.done.DonePlan.start.Goals as goal

pub returns : goal.returns
returns g c = rw c.self.view_is at (done_steps g.P.Plan.meaning c.emptied.ensures c.start-turn.ensures)
