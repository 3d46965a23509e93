use Rattle.std.proofs.Common.{ap, ◌∙◌}
use Rattle.txn_history.specs.Arrivals.{awaited_as}
use Rattle.txn_search.specs.Search.{never_timed, out_some}
use Rattle.txn_search.proofs.Held.{held_query, waits_held}
use Rattle.txn_stores.specs.Search.{IsStoresQuery}
use Rattle.txn_stores.proofs.Searching.{Search-deaf, Search-steps}
use Rattle.txn_tso.specs.Counting.{asks_of}
use Rattle.txn_stores.proofs.store_search.StoreSearch.tell.Goals as goal

pub take-requires : goal.take-requires
take-requires g c = out_some IsStoresQuery c.args.self.now.stage c.requires.ready

pub tell_query-turn-requires-clause-timeless : goal.tell_query-turn-requires-clause-timeless
tell_query-turn-requires-clause-timeless g c = ap asks_of (held_query IsStoresQuery c.in-Some.call c.args.self.now.stage c.requires.ready c.in-Some.ensures.held)

pub tell_query-turn-requires-clause-waits : goal.tell_query-turn-requires-clause-waits
tell_query-turn-requires-clause-waits g c = let taken = c.in-Some.ensures in waits_held c.in-Some.call c.args.self.now.stage (awaited_as c.args.arrival) taken.held taken.waits

pub tell_query-turn-requires-clause-untimed : goal.tell_query-turn-requires-clause-untimed
tell_query-turn-requires-clause-untimed g c ask e = let taken = c.in-Some.ensures in never_timed c.args.self.now.stage ask (rw e at taken.waits)

pub hear-requires-clause-query : goal.hear-requires-clause-query
hear-requires-clause-query g c = c.tell_query-turn.ensures.job ∙ held_query IsStoresQuery c.in-Some.call c.args.self.now.stage c.requires.ready c.in-Some.ensures.held

pub returns-in-Some : goal.returns-in-Some
returns-in-Some g c = Search-steps c.args.arrival c.requires.ready c.in-Some.ensures c.tell_query-turn.ensures.tells c.tell_query-turn.ensures.spends c.tell_query-turn.ensures.numbers c.hear.ensures.on

pub returns-in-None : goal.returns-in-None
returns-in-None g c = Search-deaf c.args.arrival c.requires.ready c.requires.numbers c.in-None.ensures c.stay.ensures
