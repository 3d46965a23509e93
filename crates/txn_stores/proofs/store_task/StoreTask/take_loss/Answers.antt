use Rattle.std.proofs.Common.{refl, ap}
use Rattle.txn_retry.specs.declared.remedy.Remedy.{Remedy}
use Rattle.txn_stores.proofs.Settled.{spent, Settles-end}
use Rattle.txn_stores.proofs.store_task.StoreTask.take_loss.Goals as goal

pub returns-in-Sleep-clause-settles : goal.returns-in-Sleep-clause-settles
returns-in-Sleep-clause-settles g c = c.sleep.ensures.settles c.args.ticket

pub returns-in_default-clause-settles : goal.returns-in_default-clause-settles
returns-in_default-clause-settles g c = Settles-end _ c.end.ensures.state c.end.ensures.turn (λ h f. record { inner = _; given = f; taken = refl; spent = λ e. spent c.args.self.now.backoff c.on_loss-remedy.result.next (ap (λ (r : Remedy). r.next) c.on_loss-remedy.ensures.remedy) c.in_default.not-Sleep })
