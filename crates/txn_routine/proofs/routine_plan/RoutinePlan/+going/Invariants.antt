use Rattle.std.proofs.Common.{◌+◌, ◌*◌}
use Rattle.txn_routine.proofs.Following.{calls_of}
use Rattle.txn_routine.proofs.routine_plan.RoutinePlan.+going.Given as goal

abbrev pub decreases-run : goal.decreases-run
decreases-run g l = 3 * g.R.Routine.way.steps l.self.now.routine + 2

abbrev pub decreases-hear : goal.decreases-hear
decreases-hear g l = 3 * g.R.Routine.way.steps l.self.now.routine + 1

abbrev pub decreases-go : goal.decreases-go
decreases-go g l = calls_of (g.R.Routine.way.steps l.self.now.routine) l.next
