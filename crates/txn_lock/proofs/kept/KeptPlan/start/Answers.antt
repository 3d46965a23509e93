use Rattle.txn_lock.proofs.Keeping.{kept_begins, kept_begun}
use Rattle.txn_lock.proofs.kept.KeptPlan.start.Goals as goal

pub returns-then-self : goal.returns-then-self
returns-then-self g c = kept_begun c.if-self.true c.requires.numbers

pub returns-else-self : goal.returns-else-self
returns-else-self g c = kept_begins c.if-self.false c.requires.numbers
