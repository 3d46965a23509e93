use Rattle.std.proofs.Common.{◌≤◌, arith}
use Rattle.txn_heartbeats.proofs.Keeping.{started_there}
use Rattle.txn_heartbeats.proofs.heartbeats.Heartbeats.was_started.Goals as goal

pub returns-in-Some : goal.returns-in-Some
returns-in-Some g c =
    let one : 1 ≤ c.args.transaction = omega arith in
    started_there c.args.self.now c.args.transaction c.deref.result.now c.in-Some.pulse.now one c.deref.ensures.value c.in-Some.ensures.lookup.3.0 c.in-Some.ensures.lookup.1
