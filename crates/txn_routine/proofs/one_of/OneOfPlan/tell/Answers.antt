use Rattle.txn_history.proofs.Telling.{turn_stopped}
use Rattle.txn_history.specs.Arrivals.{arrives}
use Rattle.txn_routine.proofs.Choosing.{progress_of_first, progress_of_second, steps_first, steps_second}
use Rattle.txn_routine.proofs.one_of.OneOfPlan.tell.Goals as goal

pub returns-in_err-tell-in-First : goal.returns-in_err-tell-in-First
returns-in_err-tell-in-First g c = rw (c.in-First.is, turn_stopped c.from_residual.result c.from_residual.ensures.0) (steps_first g.A.Plan.meaning g.B.Plan.meaning _ _ (arrives c.args.arrival c.args.out.now) _ _ _ _ _ _ _ c.in_err-tell-in-First.ensures)

pub returns-in_ok-tell-in-First : goal.returns-in_ok-tell-in-First
returns-in_ok-tell-in-First g c = rw (c.in-First.is, progress_of_first _ _ c.first.ensures) (steps_first g.A.Plan.meaning g.B.Plan.meaning _ _ (arrives c.args.arrival c.args.out.now) _ _ _ _ _ _ _ c.in_ok-tell-in-First.ensures)

pub returns-in_err-tell-in-Second : goal.returns-in_err-tell-in-Second
returns-in_err-tell-in-Second g c = rw (c.in-Second.is, turn_stopped c.from_residual-in_err-tell-in-Second.result c.from_residual-in_err-tell-in-Second.ensures.0) (steps_second g.A.Plan.meaning g.B.Plan.meaning _ _ (arrives c.args.arrival c.args.out.now) _ _ _ _ _ _ _ c.in_err-tell-in-Second.ensures)

pub returns-in_ok-tell-in-Second : goal.returns-in_ok-tell-in-Second
returns-in_ok-tell-in-Second g c = rw (c.in-Second.is, progress_of_second _ _ c.second.ensures) (steps_second g.A.Plan.meaning g.B.Plan.meaning _ _ (arrives c.args.arrival c.args.out.now) _ _ _ _ _ _ _ c.in_ok-tell-in-Second.ensures)
