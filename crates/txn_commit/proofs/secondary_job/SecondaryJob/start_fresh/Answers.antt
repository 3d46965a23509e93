use Rattle.txn_history.proofs.Telling.{turn_stopped}
use Rattle.txn_commit.proofs.Jobs.{counts_planned, tells_no_plan, tells_planned}
use Rattle.txn_commit.proofs.secondary_job.SecondaryJob.start_fresh.Goals as goal

pub returns-in_err-make_plan-clause-tells : goal.returns-in_err-make_plan-clause-tells
returns-in_err-make_plan-clause-tells g c plan keys = tells_no_plan g.P.Plans.ways.plan g.P.Plans.ways.uncommitted g.P.Plans.ways.costs.commits plan keys c.args.self.now c.make_plan.new.self c.args.out.now _ (turn_stopped c.from_residual.result c.from_residual.ensures.0) c.in_err-make_plan.ensures.err

pub returns-clause-tells : goal.returns-clause-tells
returns-clause-tells g c plan keys = tells_planned g.P.Plans.ways.plan g.P.Plans.ways.uncommitted g.P.Plans.ways.costs.commits plan keys c.args.self.now _ _ _ _ _ c.requires.fresh g.met.P.Plans.lawful c.in_ok-make_plan.ensures.ok (c.begin.ensures.tells plan keys)

pub returns-clause-counts : goal.returns-clause-counts
returns-clause-counts g c plan keys = counts_planned g.P.Plans.ways.plan g.P.Plans.ways.uncommitted g.P.Plans.ways.costs.commits plan keys c.args.self.now _ _ _ _ _ c.requires.fresh c.in_ok-make_plan.ensures.ok (c.begin.ensures.counts plan keys)
