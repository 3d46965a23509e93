use Rattle.txn_history.specs.Turn.{turn_of}
use Rattle.txn_stores.proofs.AllCalls.{begins_out, Begin-steps, Begun-steps}
use Rattle.txn_stores.proofs.all_stores.RetryableAllStoresPlan.start.Goals as goal

pub returns-then-not-is_fresh : goal.returns-then-not-is_fresh
returns-then-not-is_fresh g c = Begun-steps g.P.Plan.meaning g.P.Result.HasKeyErrors.key_errors_in g.P.Result.HasRegionError.region_error_in g.P.StoreRequest.at_store g.met.P.Plan.lawful c.requires.ready c.requires.numbers c.if-not-is_fresh.ensures c.stay.ensures

pub start-turn-requires-clause-ready : goal.start-turn-requires-clause-ready
start-turn-requires-clause-ready g c = begins_out g.P.Plan.meaning g.P.Result.HasKeyErrors.key_errors_in g.P.Result.HasRegionError.region_error_in g.P.StoreRequest.at_store c.args.self.now c.if-not-is_fresh.ensures c.requires.ready

pub returns : goal.returns
returns g c = Begin-steps g.P.Plan.meaning g.P.Result.HasKeyErrors.key_errors_in g.P.Result.HasRegionError.region_error_in g.P.StoreRequest.at_store (turn_of c.start-turn.result) (turn_of c.after_search.result) c.if-not-is_fresh.ensures c.requires.ready c.start-turn.ensures c.after_search.ensures.follows c.after_search.ensures.numbers
