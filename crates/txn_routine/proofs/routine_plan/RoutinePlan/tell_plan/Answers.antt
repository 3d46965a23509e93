use Rattle.txn_history.proofs.Telling.{turn_stopped}
use Rattle.txn_routine.proofs.Following.{told_ends, told_stops, told_waits}
use Rattle.txn_routine.proofs.routine_plan.RoutinePlan.tell_plan.Goals as goal

pub returns-in_err-tell : goal.returns-in_err-tell
returns-in_err-tell g c = rw (turn_stopped c.from_residual.result c.from_residual.ensures.0) (told_stops g.R.Plan.Plan.meaning g.R.Routine.way g.met.R.Plan.Plan.lawful g.met.R.Routine.lawful g.met.R.Routine.level c.args.arrival c.args.self.now c.requires.stopped c.requires.plan c.in_err-tell.ensures)

pub returns-in-Waiting : goal.returns-in-Waiting
returns-in-Waiting g c = told_waits g.R.Plan.Plan.meaning g.R.Routine.way g.met.R.Plan.Plan.lawful g.met.R.Routine.lawful g.met.R.Routine.level c.args.arrival c.args.self.now c.requires.plan (rw c.in-Waiting.is at c.in_ok-tell.ensures)

pub returns-in-Done : goal.returns-in-Done
returns-in-Done g c = told_ends g.R.Plan.Plan.meaning g.R.Routine.way g.met.R.Plan.Plan.lawful g.met.R.Routine.lawful g.met.R.Routine.level c.args.arrival c.args.self.now c.in-Done.answer c.requires.plan (rw c.in-Done.is at c.in_ok-tell.ensures) c.hear.ensures
