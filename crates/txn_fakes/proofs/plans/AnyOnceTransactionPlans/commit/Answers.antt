use Rattle.txn_fakes.proofs.Making.{any_commits}
use Rattle.txn_fakes.proofs.plans.AnyOnceTransactionPlans.commit.Goals as goal

pub returns : goal.returns
returns g c = rw c.new.ensures (rw c.new-plan.ensures (any_commits c.args.request c.store_for-store.result c.sent.result c.sent.ensures))
