use Rattle.std.proofs.Common.{◌≡◌, None, inl, refl}
use Rattle.txn_clients.specs.Groups.{group_of}
use Rattle.txn_clients.proofs.Places.{crashed_kept}
use Rattle.txn_clients.proofs.Sending.{gives_out, groups_left}
use Rattle.txn_clients.proofs.Telling.{on_ok}
use Rattle.txn_clients.proofs.Timestamps.{both_if_ok}
use Rattle.txn_clients.proofs.Grouping.{taken}
use Rattle.txn_clients.proofs.Pushing.{if_ok_with}
use Rattle.std.proofs.lemmas.Result.{IfOk-weaker}
use Rattle.txn_clients.proofs.Grouped.{answered_there}
use Rattle.txn_clients.proofs.clients.Clients.take_times.Goals as goal

pub returns-clause-crashed : goal.returns-clause-crashed
returns-clause-crashed g c = on_ok c.take_group.result
    (λ (same : c.take_group.new.self.crashed ≡ c.index_mut.result.now.crashed). crashed_kept c.args.self.now.clients.items c.args.client c.take_group.new.self c.index_mut.result.now c.requires c.index_mut.ensures.value same)
    c.take_group.ensures.crashed

pub returns-clause-groups : goal.returns-clause-groups
returns-clause-groups g c = on_ok c.take_group.result
    (λ (none : group_of c.take_group.new.self ≡ None). groups_left c.args.self.now.clients.items c.args.client c.take_group.new.self c.index_mut.result.now c.requires c.index_mut.ensures.value (inl none))
    c.take_group.ensures.group

pub returns-clause-given : goal.returns-clause-given
returns-clause-given g c = both_if_ok c.take_group.result _ _ _
    (λ given granted refused. gives_out c.args.self.now c.args.client c.index_mut.result.now c.args.reply given.items c.requires c.index_mut.ensures.value granted refused)
    c.take_group.ensures.granted c.take_group.ensures.refused

pub returns-clause-takes : goal.returns-clause-takes
returns-clause-takes g c = if_ok_with c.take_group.result (λ given book askers. taken c.args.self.now _ c.args.client given.items c.take_group.new.self c.index_mut.result.now refl refl c.requires c.index_mut.ensures.value book askers) c.take_group.ensures.book c.take_group.ensures.askers

pub returns-clause-granted : goal.returns-clause-granted
returns-clause-granted g c = IfOk-weaker c.take_group.result _ _ (λ given granted. answered_there c.args.self.now c.args.client c.index_mut.result.now c.args.reply given.items c.requires c.index_mut.ensures.value granted) c.take_group.ensures.granted
