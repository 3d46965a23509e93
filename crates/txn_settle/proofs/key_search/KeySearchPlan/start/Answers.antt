use Rattle.std.proofs.Common.{refl}
use Rattle.txn_plan.specs.Touch.{touch}
use Rattle.txn_settle.proofs.Searching.{Search-begins, Search-begun}
use Rattle.txn_settle.proofs.key_search.KeySearchPlan.start.Goals as goal

pub returns-then-is_fresh : goal.returns-then-is_fresh
returns-then-is_fresh g c = Search-begins g.T.Place.is_of (touch g.C.PdClient.looked g.C.PdClient.learns g.C.PdClient.leads g.C.PdClient.drops) c.look.ensures.changed c.requires.numbers c.if-is_fresh.ensures refl c.look.ensures.on

pub returns-else-is_fresh : goal.returns-else-is_fresh
returns-else-is_fresh g c = Search-begun g.T.Place.is_of (touch g.C.PdClient.looked g.C.PdClient.learns g.C.PdClient.leads g.C.PdClient.drops) (g.met.C.PdClient.looked_same _) c.requires.ready c.requires.numbers c.if-is_fresh.ensures c.stay.ensures
