use Rattle.txn_commit_plans.proofs.over_regions.OverRegionsPlan.tell.Goals as goal

pub returns : goal.returns
returns g c = rw c.self.view_is at c.tell.ensures
