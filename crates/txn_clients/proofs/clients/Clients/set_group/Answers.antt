use Rattle.std.proofs.Common.{refl, Some}
use Rattle.txn_clients.proofs.Places.{crashed_kept}
use Rattle.txn_clients.proofs.Sending.{groups_sent}
use Rattle.txn_clients.proofs.Grouping.{ticketed}
use Rattle.txn_clients.proofs.clients.Clients.set_group.Goals as goal

pub returns-clause-crashed : goal.returns-clause-crashed
returns-clause-crashed g c = crashed_kept c.args.self.now.clients.items c.args.client (record c.index_mut.result.now { group = Some c.args.ticket }) c.index_mut.result.now c.requires c.index_mut.ensures.value refl

pub returns-clause-groups : goal.returns-clause-groups
returns-clause-groups g c = groups_sent c.args.self.now.clients.items c.args.client c.args.ticket c.index_mut.result.now c.requires c.index_mut.ensures.value

pub returns-clause-ticket : goal.returns-clause-ticket
returns-clause-ticket g c = ticketed c.args.self.now _ c.args.client c.args.ticket c.index_mut.result.now refl refl c.requires c.index_mut.ensures.value
