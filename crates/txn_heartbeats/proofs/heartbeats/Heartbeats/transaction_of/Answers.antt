use Rattle.txn_heartbeats.proofs.Keeping.{transaction_there}
use Rattle.txn_heartbeats.proofs.heartbeats.Heartbeats.transaction_of.Goals as goal

pub returns : goal.returns
returns g c = transaction_there c.args.self.now c.args.line c.index.result.now c.requires c.index.ensures
