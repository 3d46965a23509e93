use Rattle.txn_history.specs.Arrivals.{arrives}
use Rattle.txn_either.proofs.Stepping.{steps_first, steps_second}
use Rattle.txn_either.proofs.either.EitherPlan.tell.Goals as goal

pub returns-in-First : goal.returns-in-First
returns-in-First g c = rw c.in-First.is (steps_first g.A.Plan.meaning g.B.Plan.meaning _ _ (arrives c.args.arrival c.args.out.now) _ _ _ _ _ _ _ c.tell.ensures)

pub returns-in-Second : goal.returns-in-Second
returns-in-Second g c = rw c.in-Second.is (steps_second g.A.Plan.meaning g.B.Plan.meaning _ _ (arrives c.args.arrival c.args.out.now) _ _ _ _ _ _ _ c.tell-in-Second.ensures)
