use Rattle.txn_stores.proofs.AllCalls.{copied}
use Rattle.txn_stores.proofs.all_stores.RetryableAllStoresPlan.try_clone.Goals as goal

pub returns : goal.returns
returns g c = copied c.args.self.now c.in_ok-try_clone.field-0 c.in_ok-copy.field-0 c.if-not-is_unbegun.ensures.0 c.if-not-is_unbegun.ensures.1 c.in_ok-try_clone.ensures c.in_ok-copy.ensures
