use Rattle.txn_history.proofs.Telling.{Tells-idle}
use Rattle.txn_history.specs.Turn.{turn_of}
use Rattle.txn_stores.specs.declared.stage.Stage.TheVariants as stage
use Rattle.txn_stores.specs.TaskLaws.{store_task-lawful}
use Rattle.txn_stores.proofs.Running.{Start-counts, Start-goes, Start-ready, Start-tells}
use Rattle.txn_stores.proofs.Tasking.{Task-keeps}
use Rattle.txn_stores.proofs.store_task.StoreTaskTask.start.Goals as goal

pub returns-then-not-is_fresh-clause-tells : goal.returns-then-not-is_fresh-clause-tells
returns-then-not-is_fresh-clause-tells g c = Tells-idle (store_task-lawful g.P.Plan.meaning g.P.Result.HasKeyErrors.key_errors_in g.P.Result.HasRegionError.region_error_in g.met.P.Plan.lawful) (λ a heard w. heard) c.stay.ensures

pub returns-clause-tells : goal.returns-clause-tells
returns-clause-tells g c = Start-tells g.P.Plan.meaning g.P.Result.HasKeyErrors.key_errors_in g.P.Result.HasRegionError.region_error_in g.met.P.Plan.lawful c.args.self.now c.after_plan.new.self c.start-turn.new.self (turn_of c.start-turn.result) c.if-not-is_fresh.ensures c.requires.ready c.start-turn.ensures c.after_plan.ensures.follows

pub returns-clause-goes : goal.returns-clause-goes
returns-clause-goes g c = Start-goes g.P.Plan.meaning g.P.Result.HasKeyErrors.key_errors_in g.P.Result.HasRegionError.region_error_in c.args.self.now c.after_plan.new.self c.start-turn.new.self (turn_of c.start-turn.result) c.if-not-is_fresh.ensures c.after_plan.ensures.follows

pub returns-clause-counts : goal.returns-clause-counts
returns-clause-counts g c = Start-counts g.P.Plan.meaning g.P.Result.HasKeyErrors.key_errors_in g.P.Result.HasRegionError.region_error_in c.args.self.now c.after_plan.new.self c.start-turn.new.self (turn_of c.start-turn.result) c.if-not-is_fresh.ensures c.requires.ready c.start-turn.ensures c.after_plan.ensures.follows

pub returns-clause-keeps : goal.returns-clause-keeps
returns-clause-keeps g c = Task-keeps g.P.StoreRequest.at_store c.start-turn.new.self stage.Running (turn_of c.start-turn.result) c.after_plan.ensures.follows

pub returns-clause-ready : goal.returns-clause-ready
returns-clause-ready g c = Start-ready g.P.Plan.meaning g.P.Result.HasKeyErrors.key_errors_in g.P.Result.HasRegionError.region_error_in c.args.self.now c.after_plan.new.self c.start-turn.new.self (turn_of c.start-turn.result) c.if-not-is_fresh.ensures c.requires.ready c.start-turn.ensures c.after_plan.ensures.follows
