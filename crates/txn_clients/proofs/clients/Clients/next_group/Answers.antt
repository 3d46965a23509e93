use Rattle.std.proofs.Common.{◌≡◌, sym, refl}
use Rattle.txn_clients.specs.Groups.{IsLeft, group_of, lines_out}
use Rattle.txn_clients.proofs.Places.{crashed_kept}
use Rattle.txn_clients.proofs.Sending.{asked_so, asks_put, groups_left, lines_so}
use Rattle.txn_clients.proofs.Telling.{on_ok}
use Rattle.txn_clients.proofs.Grouping.{regrouped}
use Rattle.std.proofs.lemmas.Result.{IfOk-weaker}
use Rattle.txn_clients.proofs.Grouped.{next_put}
use Rattle.txn_clients.proofs.clients.Clients.next_group.Goals as goal

pub returns-clause-crashed : goal.returns-clause-crashed
returns-clause-crashed g c = on_ok c.next_group.result
    (λ (same : c.next_group.new.self.crashed ≡ c.index_mut.result.now.crashed). crashed_kept c.args.self.now.clients.items c.args.client c.next_group.new.self c.index_mut.result.now c.requires c.index_mut.ensures.value same)
    c.next_group.ensures.crashed

pub returns-clause-groups : goal.returns-clause-groups
returns-clause-groups g c = on_ok c.next_group.result
    (λ (left : IsLeft (group_of c.index_mut.result.now) (group_of c.next_group.new.self)). groups_left c.args.self.now.clients.items c.args.client c.next_group.new.self c.index_mut.result.now c.requires c.index_mut.ensures.value left)
    c.next_group.ensures.left

pub returns-clause-askers : goal.returns-clause-askers
returns-clause-askers g c = asked_so c.next_group.result (lines_out c.next_group.new.self) _ (sym (asks_put c.args.self.now.clients.items c.args.client c.next_group.new.self c.requires)) c.next_group.ensures.askers

pub returns-clause-lines : goal.returns-clause-lines
returns-clause-lines g c = lines_so c.next_group.result c.newest-newest.result _ c.newest-newest.ensures c.next_group.ensures.most

pub returns-clause-regroups : goal.returns-clause-regroups
returns-clause-regroups g c = IfOk-weaker c.next_group.result _ _ (λ group book. regrouped c.args.self.now _ c.args.client group c.next_group.new.self c.index_mut.result.now refl refl c.requires c.index_mut.ensures.value book) c.next_group.ensures.regroups

pub returns-clause-next : goal.returns-clause-next
returns-clause-next g c = IfOk-weaker c.next_group.result _ _ (λ group next. next_put c.args.self.now c.args.client _ c.next_group.new.self c.index_mut.result.now c.requires c.index_mut.ensures.value next) c.next_group.ensures.next
