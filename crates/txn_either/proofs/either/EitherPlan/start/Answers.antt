use Rattle.txn_history.specs.Steps.{begins}
use Rattle.txn_either.proofs.Stepping.{steps_first, steps_second}
use Rattle.txn_either.proofs.either.EitherPlan.start.Goals as goal

pub returns-in-First : goal.returns-in-First
returns-in-First g c = rw c.in-First.is (steps_first g.A.Plan.meaning g.B.Plan.meaning _ _ begins _ _ _ _ _ _ _ c.start.ensures)

pub returns-in-Second : goal.returns-in-Second
returns-in-Second g c = rw c.in-Second.is (steps_second g.A.Plan.meaning g.B.Plan.meaning _ _ begins _ _ _ _ _ _ _ c.start-in-Second.ensures)
