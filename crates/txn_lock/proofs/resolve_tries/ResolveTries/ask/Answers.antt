use Rattle.std.proofs.Common.{sym}
use Rattle.txn_lock.proofs.Trying.{asks_region}
use Rattle.txn_lock.proofs.resolve_tries.ResolveTries.ask.Goals as goal

pub returns-in-Ok-clause-next : goal.returns-in-Ok-clause-next
returns-in-Ok-clause-next g c = asks_region c.args.self.now c.args.store.now c.in-Ok.region c.request.result c.in-Ok.plan (sym c.if-is_some.ensures) c.request.ensures.rest c.in-Ok.ensures.ok
