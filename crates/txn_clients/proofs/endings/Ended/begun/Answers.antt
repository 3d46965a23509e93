use Rattle.txn_clients.proofs.Going.{begun_arises}
use Rattle.txn_clients.proofs.endings.Ended.begun.Goals as goal

pub returns-clause-arises : goal.returns-clause-arises
returns-clause-arises g c (options, now, e) trace at retries none o nexts = begun_arises _ c.args.transaction options now trace at o nexts e retries (none o.line)
