use Rattle.std.proofs.Common.{ap, ◌∙◌}
use Rattle.std.proofs.lemmas.Result.{IfOk-weaker}
use Rattle.txn_kv.specs.declared.outbox.Outbox.{Outbox}
use Rattle.txn_clients.proofs.Places.{next_there}
use Rattle.txn_clients.proofs.Numbers.{posted_so}
use Rattle.txn_clients.proofs.clients.Clients.outbox.Goals as goal

pub returns-clause-next : goal.returns-clause-next
returns-clause-next g c = IfOk-weaker c.outbox.result _ _ (λ (o : Outbox) e. ap (λ (x : Outbox). x.next) e ∙ next_there c.args.self.now c.args.line c.index.result.now c.requires c.index.ensures) c.outbox.ensures.outbox

pub returns-clause-is : goal.returns-clause-is
returns-clause-is g c = IfOk-weaker c.outbox.result _ _ (λ (o : Outbox) e. e ∙ posted_so c.args.self.now c.args.line c.index.result.now c.requires c.index.ensures) c.outbox.ensures.outbox
