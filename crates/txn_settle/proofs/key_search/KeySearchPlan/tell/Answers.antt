use Rattle.txn_history.specs.Arrivals.{awaited_as}
use Rattle.txn_region.specs.Clients.{IsPlaceQuery}
use Rattle.txn_search.specs.Search.{never_timed, out_some}
use Rattle.txn_search.proofs.Held.{asks_none, held_query, waits_held}
use Rattle.txn_history.specs.Turn.{turn_of, IfKept-weaker}
use Rattle.txn_plan.specs.Touch.{touch}
use Rattle.txn_settle.proofs.Searching.{seeks_after, Search-deaf, Search-steps}
use Rattle.txn_settle.proofs.key_search.KeySearchPlan.tell.Goals as goal

pub take-requires : goal.take-requires
take-requires g c = out_some IsPlaceQuery c.args.self.now.stage c.requires.callable.ready

pub tell_query-turn-requires-clause-timeless : goal.tell_query-turn-requires-clause-timeless
tell_query-turn-requires-clause-timeless g c = asks_none c.in-Some.call.query (held_query IsPlaceQuery c.in-Some.call c.args.self.now.stage c.requires.callable.ready c.in-Some.ensures.held)

pub tell_query-turn-requires-clause-waits : goal.tell_query-turn-requires-clause-waits
tell_query-turn-requires-clause-waits g c = let taken = c.in-Some.ensures in waits_held c.in-Some.call c.args.self.now.stage (awaited_as c.args.arrival) taken.held taken.waits

pub tell_query-turn-requires-clause-untimed : goal.tell_query-turn-requires-clause-untimed
tell_query-turn-requires-clause-untimed g c ask e = let taken = c.in-Some.ensures in never_timed c.args.self.now.stage ask (rw e at taken.waits)

pub returns-in-Some : goal.returns-in-Some
returns-in-Some g c = Search-steps g.T.Place.is_of (touch g.C.PdClient.looked g.C.PdClient.learns g.C.PdClient.leads g.C.PdClient.drops) c.args.arrival c.requires.callable.ready c.in-Some.ensures c.tell_query-turn.ensures.tells c.tell_query-turn.ensures.spends c.tell_query-turn.ensures.numbers c.hear.ensures.on
    (IfKept-weaker (turn_of c.hear.result) (λ s. seeks_after (touch g.C.PdClient.looked g.C.PdClient.learns g.C.PdClient.leads g.C.PdClient.drops) g.met.C.PdClient.looked_on (g.met.C.PdClient.looked_lent _ _) s) c.hear.ensures.client)

pub returns-in-None : goal.returns-in-None
returns-in-None g c = Search-deaf g.T.Place.is_of (touch g.C.PdClient.looked g.C.PdClient.learns g.C.PdClient.leads g.C.PdClient.drops) c.args.arrival (g.met.C.PdClient.looked_same _) c.requires.callable.ready c.requires.callable.numbers c.in-None.ensures c.stay.ensures
