use Rattle.std.proofs.Common.{◌-◌, refl}
use Rattle.txn_clients.proofs.Places.{nexts_kept, rows_set}
use Rattle.txn_clients.proofs.Numbers.{asks_kept}
use Rattle.txn_clients.proofs.clients.Clients.set_row.Goals as goal

pub returns-clause-rows : goal.returns-clause-rows
returns-clause-rows g c = rows_set c.args.self.now.places.items (c.args.line - 1) _

pub returns-clause-nexts : goal.returns-clause-nexts
returns-clause-nexts g c = nexts_kept c.args.self.now c.args.line _ c.index_mut.result.now c.requires c.index_mut.ensures.value refl

pub returns-clause-asks : goal.returns-clause-asks
returns-clause-asks g c = asks_kept c.args.self.now c.args.line _ c.index_mut.result.now c.requires c.index_mut.ensures.value refl
