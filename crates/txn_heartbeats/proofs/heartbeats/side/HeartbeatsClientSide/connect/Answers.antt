use Rattle.std.proofs.Common.{◌-◌, length}
use Rattle.std.proofs.lemmas.List.{length-set}
use Rattle.std.proofs.lemmas.Result.{on_ok_weaker}
use Rattle.txn_side.specs.Sight.{connected, line_count}
use Rattle.txn_side.specs.Sight.Stand.{IsClient}
use Rattle.txn_heartbeats.proofs.Stepping.{stays_beside}
use Rattle.txn_heartbeats.proofs.heartbeats.side.HeartbeatsClientSide.connect.Goals as goal

pub returns : goal.returns
returns g c =
    let s = g.S.ClientSide.sight c.args.self.now.side in
    on_ok_weaker c.connect.result (stays_beside g.met.S.HeartHost.unbeaten (connected s) c.args.self.now c.connect.new.self (length-set s.stands (line_count s - 1) (IsClient (length s.crashed))) c.requires.ready) c.connect.ensures
