use Rattle.txn_history.specs.Turn.{turn_of}
use Rattle.txn_tasks.specs.Step.{step_turn}
use Rattle.txn_stores.proofs.Running.{Run-steps}
use Rattle.txn_stores.proofs.Tasking.{Task-keeps}
use Rattle.txn_stores.proofs.Waking.{Deaf-steps, Wake-keeps, Wake-off, Wake-steps}
use Rattle.txn_stores.proofs.store_task.StoreTaskTask.tell.Goals as goal

pub returns-in-Some-clause-steps : goal.returns-in-Some-clause-steps
returns-in-Some-clause-steps g c = Wake-steps g.P.Plan.meaning g.P.Result.HasKeyErrors.key_errors_in g.P.Result.HasRegionError.region_error_in g.met.P.Plan.lawful c.args.arrival c.in-Some.backoff c.requires.callable.ready c.requires.callable.numbers (rw c.in-Some.is at c.woken_by.ensures) c.give_again.ensures

pub returns-in-Some-clause-keeps : goal.returns-in-Some-clause-keeps
returns-in-Some-clause-keeps g c = Wake-keeps g.P.Plan.meaning g.P.Result.HasKeyErrors.key_errors_in g.P.Result.HasRegionError.region_error_in g.P.StoreRequest.at_store c.in-Some.backoff c.args.self.now c.give_again.new.self (step_turn c.give_again.result) c.requires.callable.ready c.give_again.ensures

pub returns-in-Some-clause-off : goal.returns-in-Some-clause-off
returns-in-Some-clause-off g c = λ e. Wake-off c.in-Some.backoff c.args.self.now c.give_again.new.self (step_turn c.give_again.result) c.give_again.ensures

pub returns-then-not-is_under_way-clause-steps : goal.returns-then-not-is_under_way-clause-steps
returns-then-not-is_under_way-clause-steps g c = Deaf-steps g.P.Plan.meaning g.P.Result.HasKeyErrors.key_errors_in g.P.Result.HasRegionError.region_error_in g.met.P.Plan.lawful c.args.arrival c.requires.callable.ready c.requires.callable.numbers c.if-not-is_under_way.ensures (rw c.in_default.is at c.woken_by.ensures) c.stay.ensures

pub returns-clause-steps : goal.returns-clause-steps
returns-clause-steps g c = Run-steps g.P.Plan.meaning g.P.Result.HasKeyErrors.key_errors_in g.P.Result.HasRegionError.region_error_in c.args.arrival (turn_of c.tell-turn.result) c.if-not-is_under_way.ensures c.requires.callable.ready c.tell-turn.ensures c.after_plan.ensures.follows c.after_plan.ensures.numbers

pub returns-clause-keeps : goal.returns-clause-keeps
returns-clause-keeps g c = Task-keeps g.P.StoreRequest.at_store c.tell-turn.new.self c.args.self.now.stage (turn_of c.tell-turn.result) c.after_plan.ensures.follows
