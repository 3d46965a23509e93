use Rattle.std.proofs.Common.{sym}
use Rattle.txn_history.specs.Arrivals.{awaited_as}
use Rattle.txn_tasks.proofs.tasks.Tasks.find.Goals as goal

pub returns-clause-within : goal.returns-clause-within
returns-clause-within g c = c.requires.ready.leads (awaited_as c.args.arrival.now) c.in_ok-at.at (sym c.in_ok-at.ensures.task)
