use Rattle.txn_fakes.proofs.Making.{any_rolls_back}
use Rattle.txn_fakes.proofs.plans.AnyOnceTransactionPlans.roll_back.Goals as goal

pub returns : goal.returns
returns g c = rw c.new.ensures (rw c.new-plan.ensures (any_rolls_back c.args.request c.store_for-store.result c.sent.result c.sent.ensures))
