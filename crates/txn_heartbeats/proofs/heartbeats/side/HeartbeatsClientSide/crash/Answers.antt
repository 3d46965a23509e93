use Rattle.std.proofs.Common.{refl}
use Rattle.txn_side.specs.Sight.{crash}
use Rattle.txn_heartbeats.proofs.Stepping.{stays_beside}
use Rattle.txn_heartbeats.proofs.heartbeats.side.HeartbeatsClientSide.crash.Goals as goal

pub returns-clause-gone : goal.returns-clause-gone
returns-clause-gone g c = stays_beside g.met.S.HeartHost.unbeaten (crash c.args.line (g.S.ClientSide.sight c.args.self.now.side)) c.args.self.now c.crash.new.self refl c.requires.ready c.crash.ensures.gone
