use Rattle.txn_multi.proofs.TaskSteps.{sleep_ends, sleeps_on}
use Rattle.txn_multi.proofs.task.RegionTask.tell_sleeping.Goals as goal

pub returns-then-is_end_of : goal.returns-then-is_end_of
returns-then-is_end_of g c = sleep_ends _ _ _ _ _ _ _ g.met.P.Plan.lawful c.args.arrival c.args.self.now c.args.number c.if-is_end_of.ensures c.cut.ensures.over c.cut.ensures.costs c.cut.ensures.keeps c.cut.ensures.changed c.cut.ensures.off c.cut.ensures.ready c.cut.ensures.numbers

pub returns : goal.returns
returns g c = sleeps_on _ _ _ _ _ _ _ g.met.P.Plan.lawful c.args.arrival c.args.self.now c.args.number c.requires.job c.requires.numbers c.if-is_end_of.ensures
