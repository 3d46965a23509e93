use Rattle.std.proofs.Common.{sym}
use Rattle.txn_lock.proofs.Deciding.{decision_asked, decision_kept, so_told, told_so}
use Rattle.txn_lock.proofs.decision.decision_plan.Goals as goal

pub returns-in-Some : goal.returns-in-Some
returns-in-Some g c = rw c.new.ensures (decision_kept c.args.lock.now _ _ (sym c.in-Some.ensures))

pub returns-in_ok-plan-in-None : goal.returns-in_ok-plan-in-None
returns-in_ok-plan-in-None g c = decision_asked c.args.lock.now _ c.in_ok-plan-in-None.ensures (told_so c.is_pessimistic.result c.is_pessimistic.ensures) (so_told c.is_pessimistic.result c.is_pessimistic.ensures) _ (sym c.in-None.ensures)
