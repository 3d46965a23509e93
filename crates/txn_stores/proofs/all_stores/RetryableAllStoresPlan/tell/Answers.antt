use Rattle.txn_history.specs.Turn.{turn_of}
use Rattle.txn_stores.proofs.AllCalls.{Deaf-steps, Running-steps, Searching-steps}
use Rattle.txn_tasks.specs.Tasks.{tasks_turn}
use Rattle.txn_stores.proofs.all_stores.RetryableAllStoresPlan.tell.Goals as goal

pub returns-in-Searching : goal.returns-in-Searching
returns-in-Searching g c = Searching-steps g.P.Plan.meaning g.P.Result.HasKeyErrors.key_errors_in g.P.Result.HasRegionError.region_error_in g.P.StoreRequest.at_store c.args.arrival (turn_of c.tell-turn.result) (turn_of c.after_search.result) c.in-Searching.is c.requires.callable.ready c.tell-turn.ensures c.after_search.ensures.follows c.after_search.ensures.numbers

pub returns-in-Some : goal.returns-in-Some
returns-in-Some g c = Running-steps g.P.Plan.meaning g.P.Result.HasKeyErrors.key_errors_in g.P.Result.HasRegionError.region_error_in g.P.StoreRequest.at_store c.args.arrival (tasks_turn c.tell-turn-in-Some.result) (turn_of c.after_tasks.result) c.in-Running.is c.in-Some.is c.requires.callable.ready c.tell-turn-in-Some.ensures c.after_tasks.ensures

pub returns-in_default : goal.returns-in_default
returns-in_default g c = Deaf-steps g.P.Plan.meaning g.P.Result.HasKeyErrors.key_errors_in g.P.Result.HasRegionError.region_error_in g.P.StoreRequest.at_store g.met.P.Plan.lawful c.args.arrival c.requires.callable.ready c.requires.callable.numbers c.in_default.not-Searching c.in_default.not-Running c.stay.ensures
