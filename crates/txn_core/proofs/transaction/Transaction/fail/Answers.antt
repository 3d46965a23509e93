use Rattle.std.proofs.Common.{refl}
use Rattle.txn_core.proofs.Going.{takes_failed}
use Rattle.txn_history.proofs.Telling.{turn_stopped}
use Rattle.txn_core.proofs.Waiting.{rests_gone, rests_idle}
use Rattle.txn_core.proofs.transaction.Transaction.fail.Goals as goal

pub returns-clause-takes_up : goal.returns-clause-takes_up
returns-clause-takes_up g c o = rw c.refused.ensures (takes_failed _ c.args.call c.args.self.now c.set_work.new.self c.args.error c.in_ok-error.error c.set_work.new.self.width o (rw (c.set_work.ensures, c.note_width.ensures) refl) (rw c.note_width.ensures at c.in_ok-error.ensures))

pub returns-in_err-error-clause-rests : goal.returns-in_err-error-clause-rests
returns-in_err-error-clause-rests g c = rests_gone _ c.note_width.new.self _ (rw c.note_width.ensures c.requires.aside) (turn_stopped _ c.from_residual.ensures.0)

pub returns-clause-rests : goal.returns-clause-rests
returns-clause-rests g c = rests_idle _ c.set_work.new.self _ (rw c.set_work.ensures refl) (rw c.refused.ensures tt)
