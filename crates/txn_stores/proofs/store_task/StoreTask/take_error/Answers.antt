use Rattle.std.proofs.Common.{refl, sym, ◌∙◌}
use Rattle.std.proofs.lemmas.Bool.{false≢true}
use Rattle.txn_stores.proofs.Settled.{Settles-end}
use Rattle.txn_stores.proofs.store_task.StoreTask.take_error.Goals as goal

pub returns-in-None-clause-settles : goal.returns-in-None-clause-settles
returns-in-None-clause-settles g c = Settles-end _ c.end.ensures.state c.end.ensures.turn (λ h f. record { inner = _; given = f; taken = refl; spent = λ e. absurd (false≢true (sym (rw c.in-None.is at c.lost_in.ensures) ∙ e)) })
