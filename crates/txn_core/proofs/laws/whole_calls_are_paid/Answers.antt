use Rattle.txn_core.proofs.Adding.{runs_pay, runs_rest}
use Rattle.txn_core.proofs.laws.whole_calls_are_paid.Goals as goal

pub returns-clause-posted : goal.returns-clause-posted
returns-clause-posted g c costs whole first steps n r u e = runs_pay _ costs whole first steps n r u e

pub returns-clause-rested : goal.returns-clause-rested
returns-clause-rested g c costs whole first steps r = runs_rest _ costs whole first steps r
