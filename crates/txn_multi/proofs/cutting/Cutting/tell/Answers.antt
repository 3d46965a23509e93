use Rattle.txn_history.specs.Arrivals.{awaited_as}
use Rattle.txn_history.specs.Turn.{turn_of, IfKept-weaker}
use Rattle.txn_multi.proofs.Searching.{search_deaf, search_heard}
use Rattle.txn_multi.proofs.Touchings.{seeks_after}
use Rattle.txn_plan.specs.Touch.{touch}
use Rattle.txn_multi.proofs.cutting.Cutting.tell.Goals as goal
use Rattle.txn_region.specs.Clients.{IsPlaceQuery}
use Rattle.txn_search.specs.Search.{never_timed, out_some}
use Rattle.txn_search.proofs.Held.{asks_none, held_query, waits_held}

pub take-requires : goal.take-requires
take-requires g c = out_some IsPlaceQuery c.self.inside.stage c.self.invariant.2

pub tell_query-turn-requires-clause-timeless : goal.tell_query-turn-requires-clause-timeless
tell_query-turn-requires-clause-timeless g c = asks_none c.in-Some.call.query (held_query IsPlaceQuery c.in-Some.call c.self.inside.stage c.self.invariant.2 c.in-Some.ensures.held)

pub tell_query-turn-requires-clause-waits : goal.tell_query-turn-requires-clause-waits
tell_query-turn-requires-clause-waits g c = let taken = c.in-Some.ensures in waits_held c.in-Some.call c.self.inside.stage (awaited_as c.args.arrival) taken.held taken.waits

pub tell_query-turn-requires-clause-untimed : goal.tell_query-turn-requires-clause-untimed
tell_query-turn-requires-clause-untimed g c ask e = let taken = c.in-Some.ensures in never_timed c.self.inside.stage ask (rw e at taken.waits)

pub returns-in-Some : goal.returns-in-Some
returns-in-Some g c =
    let ready = rw (← c.self.view_is) at c.requires.ready in
    rw (← c.self.view_is) (search_heard g.P.Plan.meaning g.P.Shardable.IsPart g.P.Shardable.load g.P.Shardable.AreCut g.P.RegionPlan.most (touch g.C.PdClient.looked g.C.PdClient.learns g.C.PdClient.leads g.C.PdClient.drops) c.args.arrival c.self.invariant.2 c.in-Some.ensures c.tell_query-turn.ensures.tells c.tell_query-turn.ensures.spends c.tell_query-turn.ensures.numbers ready c.hear.ensures.on
    (IfKept-weaker (turn_of c.hear.result) (λ s. seeks_after (touch g.C.PdClient.looked g.C.PdClient.learns g.C.PdClient.leads g.C.PdClient.drops) g.met.C.PdClient.looked_on (g.met.C.PdClient.looked_lent _ _) s) c.hear.ensures.client))

pub returns-in-None : goal.returns-in-None
returns-in-None g c =
    let ready = rw (← c.self.view_is) at c.requires.ready in
    rw (← c.self.view_is) (search_deaf g.P.Plan.meaning g.P.Shardable.IsPart g.P.Shardable.load g.P.Shardable.AreCut g.P.RegionPlan.most (touch g.C.PdClient.looked g.C.PdClient.learns g.C.PdClient.leads g.C.PdClient.drops) c.args.arrival (g.met.C.PdClient.looked_same _) c.in-None.ensures c.stay.ensures ready c.requires.numbers)
