use Rattle.std.proofs.Common.{refl}
use Rattle.txn_history.proofs.Telling.{turn_stopped}
use Rattle.txn_core.proofs.Waiting.{rests_gone, rests_idle}
use Rattle.txn_core.proofs.transaction.Transaction.refuse_rollback.Goals as goal

pub returns-in_err-error-clause-rests : goal.returns-in_err-error-clause-rests
returns-in_err-error-clause-rests g c = rests_gone _ c.set_work.new.self _ (rw c.set_work.ensures refl) (turn_stopped _ c.from_residual.ensures.0)

pub returns-clause-rests : goal.returns-clause-rests
returns-clause-rests g c = rests_idle _ c.set_work-2.new.self _ (rw c.set_work-2.ensures refl) (rw c.refused.ensures tt)
