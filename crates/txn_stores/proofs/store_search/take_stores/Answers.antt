use Rattle.txn_stores.proofs.store_search.take_stores.Goals as goal

pub returns-in-Stores : goal.returns-in-Stores
returns-in-Stores c = (c.in-Stores.all, rw c.in-Stores.is at c.in_ok-all.was, rw c.replace-all.ensures.value at c.in_ok-valid_stores-in-Stores.ensures)
