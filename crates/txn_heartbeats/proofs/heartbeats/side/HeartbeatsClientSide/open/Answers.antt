use Rattle.std.proofs.Common.{ap}
use Rattle.txn_heartbeats.proofs.Stepping.{opened_so}
use Rattle.txn_heartbeats.proofs.heartbeats.side.HeartbeatsClientSide.open.Goals as goal

pub returns : goal.returns
returns g c = opened_so g.met.S.HeartHost.unbeaten c.args.self.now _ c.new.result c.in_ok-push.ensures.items (ap (λ p. p.next) c.new.ensures) (ap (λ p. p.job) c.new.ensures) c.requires.ready c.in_ok-open.ensures
