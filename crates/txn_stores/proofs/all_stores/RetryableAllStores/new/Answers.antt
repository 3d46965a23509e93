use Rattle.txn_stores.specs.AllLaws.{all_stores-ready, all_stores-unbegun}
use Rattle.txn_stores.proofs.all_stores.RetryableAllStores.new.Goals as goal

pub returns-clause-unbegun : goal.returns-clause-unbegun
returns-clause-unbegun g c = λ u. rw c.new.ensures.value (all_stores-unbegun g.P.Plan.meaning g.P.Result.HasKeyErrors.key_errors_in g.P.Result.HasRegionError.region_error_in g.P.StoreRequest.at_store c.args.inner c.args.backoff c.args.alloc u)

pub returns-clause-ready : goal.returns-clause-ready
returns-clause-ready g c = λ u. rw c.new.ensures.value (all_stores-ready g.P.Plan.meaning g.P.Result.HasKeyErrors.key_errors_in g.P.Result.HasRegionError.region_error_in c.args.inner c.args.backoff c.args.alloc u)
