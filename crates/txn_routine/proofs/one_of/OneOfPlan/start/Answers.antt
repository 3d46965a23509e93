use Rattle.txn_history.proofs.Telling.{turn_stopped}
use Rattle.txn_history.specs.Steps.{begins}
use Rattle.txn_routine.proofs.Choosing.{progress_of_first, progress_of_second, steps_first, steps_second}
use Rattle.txn_routine.proofs.one_of.OneOfPlan.start.Goals as goal

pub returns-in_err-start-in-First : goal.returns-in_err-start-in-First
returns-in_err-start-in-First g c = rw (c.in-First.is, turn_stopped c.from_residual.result c.from_residual.ensures.0) (steps_first g.A.Plan.meaning g.B.Plan.meaning _ _ begins _ _ _ _ _ _ _ c.in_err-start-in-First.ensures)

pub returns-in_ok-start-in-First : goal.returns-in_ok-start-in-First
returns-in_ok-start-in-First g c = rw (c.in-First.is, progress_of_first _ _ c.first.ensures) (steps_first g.A.Plan.meaning g.B.Plan.meaning _ _ begins _ _ _ _ _ _ _ c.in_ok-start-in-First.ensures)

pub returns-in_err-start-in-Second : goal.returns-in_err-start-in-Second
returns-in_err-start-in-Second g c = rw (c.in-Second.is, turn_stopped c.from_residual-in_err-start-in-Second.result c.from_residual-in_err-start-in-Second.ensures.0) (steps_second g.A.Plan.meaning g.B.Plan.meaning _ _ begins _ _ _ _ _ _ _ c.in_err-start-in-Second.ensures)

pub returns-in_ok-start-in-Second : goal.returns-in_ok-start-in-Second
returns-in_ok-start-in-Second g c = rw (c.in-Second.is, progress_of_second _ _ c.second.ensures) (steps_second g.A.Plan.meaning g.B.Plan.meaning _ _ begins _ _ _ _ _ _ _ c.in_ok-start-in-Second.ensures)
