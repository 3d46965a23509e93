use Rattle.std.proofs.Common.{◌∙◌}
use Rattle.std.proofs.lemmas.Result.{IfOk-weaker}
use Rattle.txn_heartbeats.proofs.Keeping.{outbox_there}
use Rattle.txn_heartbeats.proofs.heartbeats.Heartbeats.outbox.Goals as goal

pub returns-clause-outbox : goal.returns-clause-outbox
returns-clause-outbox g c = IfOk-weaker c.outbox.result _ _ (λ out e. e ∙ outbox_there c.args.self.now c.args.line c.index.result.now c.requires c.index.ensures) c.outbox.ensures.outbox
