use Rattle.std.proofs.Common.{refl}
use Rattle.txn_core.proofs.Going.{takes_checked, takes_committed, takes_rolled}
use Rattle.txn_core.proofs.Waiting.{hands_committed}
use Rattle.txn_core.proofs.transaction.Transaction.answer.Goals as goal

pub returns-in-Committed-clause-takes_up : goal.returns-in-Committed-clause-takes_up
returns-in-Committed-clause-takes_up g c o = rw c.in-Committed.is (takes_committed _ c.args.call c.args.self.now c.reach.new.self c.in-Committed.timestamp c.into_secondaries.result c.reach.new.self.width o _ (rw (c.reach.ensures, c.let_go.ensures) refl) c.into_secondaries.ensures c.committed.ensures)

pub returns-in-Checked-clause-takes_up : goal.returns-in-Checked-clause-takes_up
returns-in-Checked-clause-takes_up g c o = rw c.in-Checked.is (takes_checked _ c.args.call c.args.self.now c.reach-in-Checked.new.self c.reach-in-Checked.new.self.width o (rw (c.reach-in-Checked.ensures, c.let_go.ensures) refl))

pub returns-in-RolledBack-clause-takes_up : goal.returns-in-RolledBack-clause-takes_up
returns-in-RolledBack-clause-takes_up g c o = rw c.in-RolledBack.is (takes_rolled _ c.args.call c.args.self.now c.reach-in-RolledBack.new.self c.reach-in-RolledBack.new.self.width o (rw (c.reach-in-RolledBack.ensures, c.let_go.ensures) refl))

pub returns-in-Committed-clause-job : goal.returns-in-Committed-clause-job
returns-in-Committed-clause-job g c = hands_committed g.P.Plans.ways.plan _ _ c.in-Committed.timestamp _ _ (rw (c.reach.ensures, c.let_go.ensures) c.requires.start) (rw c.in-Committed.is at c.requires.version) c.committed.ensures
