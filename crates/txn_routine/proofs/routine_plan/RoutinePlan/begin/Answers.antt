use Rattle.txn_history.proofs.Telling.{turn_stopped}
use Rattle.txn_routine.proofs.Following.{next, stopped}
use Rattle.txn_routine.proofs.routine_plan.RoutinePlan.begin.Goals as goal

pub returns-in_err-next : goal.returns-in_err-next
returns-in_err-next g c = rw (turn_stopped c.from_residual.result c.from_residual.ensures.0) (stopped g.R.Plan.Plan.meaning g.R.Routine.way c.requires.stopped c.in_err-next.ensures.job)

pub returns : goal.returns
returns g c = next g.R.Plan.Plan.meaning g.R.Routine.way _ c.in_ok-next.next c.in_ok-next.ensures.job c.in_ok-next.ensures.next c.go.ensures
