use Rattle.txn_stores.proofs.Searching.{Search-begins, Search-begun}
use Rattle.txn_stores.proofs.store_search.StoreSearch.start.Goals as goal

pub returns-then-is_fresh : goal.returns-then-is_fresh
returns-then-is_fresh g c = Search-begins c.requires.numbers c.if-is_fresh.ensures c.ask.ensures.on

pub returns-else-is_fresh : goal.returns-else-is_fresh
returns-else-is_fresh g c = Search-begun c.requires.ready c.requires.numbers c.if-is_fresh.ensures c.stay.ensures
