use Rattle.std.proofs.Common.{refl}
use Rattle.std.proofs.lemmas.Bool.{false≢true}
use Rattle.txn_stores.proofs.Settled.{step_stopped, Settles-end, Settles-stopped}
use Rattle.txn_stores.proofs.store_task.StoreTask.keep_reply.Goals as goal

pub returns-in_err-answer : goal.returns-in_err-answer
returns-in_err-answer g c = record { settles = λ failed o. Settles-stopped refl (step_stopped c.from_residual.result c.from_residual.ensures.0) refl }

pub returns : goal.returns
returns g c = record { settles = λ failed o. Settles-end c.in_ok-answer.answer c.end.ensures.state c.end.ensures.turn (λ h f. record { inner = _; given = f; taken = c.in_ok-answer.ensures; spent = λ e. absurd (false≢true e) }) }
