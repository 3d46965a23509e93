use Rattle.txn_history.proofs.Telling.{turn_stopped}
use Rattle.txn_routine.proofs.Following.{next, run_ends, run_stops, run_waits, stopped}
use Rattle.txn_routine.proofs.routine_plan.RoutinePlan.+going.Goals as goal

pub hear-returns-in_err-next : goal.hear-returns-in_err-next
hear-returns-in_err-next g k c = rw (turn_stopped c.from_residual.result c.from_residual.ensures.0) (stopped g.R.Plan.Plan.meaning g.R.Routine.way c.requires.stopped c.hear.ensures.job)

pub hear-returns : goal.hear-returns
hear-returns g k c = next g.R.Plan.Plan.meaning g.R.Routine.way _ c.in_ok-next.next c.in_ok-next.ensures.job c.in_ok-next.ensures.next c.go.ensures

pub run-returns-in_err-start : goal.run-returns-in_err-start
run-returns-in_err-start g k c = rw (turn_stopped c.from_residual.result c.from_residual.ensures.0) (run_stops g.R.Plan.Plan.meaning g.R.Routine.way g.met.R.Plan.Plan.lawful g.met.R.Routine.lawful g.met.R.Routine.level c.requires.stopped c.requires.plan c.in_err-start.ensures)

pub run-returns-in-Waiting : goal.run-returns-in-Waiting
run-returns-in-Waiting g k c = run_waits g.R.Plan.Plan.meaning g.R.Routine.way g.met.R.Plan.Plan.lawful g.met.R.Routine.lawful g.met.R.Routine.level c.requires.plan (rw c.in-Waiting.is at c.in_ok-start.ensures)

pub run-returns-in-Done : goal.run-returns-in-Done
run-returns-in-Done g k c = run_ends g.R.Plan.Plan.meaning g.R.Routine.way g.met.R.Plan.Plan.lawful g.met.R.Routine.lawful g.met.R.Routine.level c.in-Done.answer c.requires.plan (rw c.in-Done.is at c.in_ok-start.ensures) c.hear.ensures
