use Rattle.std.proofs.lemmas.Result.{IfOk-weaker}
use Rattle.txn_heartbeats.proofs.Stepping.{asked_beside}
use Rattle.txn_heartbeats.proofs.heartbeats.side.HeartbeatsClientSide.call.Goals as goal

pub returns : goal.returns
returns g c = IfOk-weaker c.call.result _ _ (λ turn. asked_beside g.met.S.HeartHost.unbeaten g.S.ClientSide.fails c.args.client c.args.act c.args.self.now c.call.new.self turn c.requires.ready) c.call.ensures
