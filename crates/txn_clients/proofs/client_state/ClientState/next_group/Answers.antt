use Rattle.txn_clients.proofs.Timestamps.{group_asks}
use Rattle.txn_clients.proofs.Grouping.{regroups}
use Rattle.std.proofs.Common.{sym, ◌∙◌, refl}
use Rattle.txn_clients.proofs.client_state.ClientState.next_group.Goals as goal

pub returns-in_ok-askers-in-Some-clause-group : goal.returns-in_ok-askers-in-Some-clause-group
returns-in_ok-askers-in-Some-clause-group c = group_asks c.args.self.now.oracle c.next_group.new.self c.in_ok-next_group.field-0 c.in-Some.request c.askers.result.now c.in_ok-askers-in-Some.askers
    c.in_ok-next_group.ensures.request c.in-Some.is c.in_ok-next_group.ensures.ok c.askers.ensures c.in_ok-askers-in-Some.ensures.lines

pub returns-in_ok-askers-in-Some-clause-regroups : goal.returns-in_ok-askers-in-Some-clause-regroups
returns-in_ok-askers-in-Some-clause-regroups c = regroups c.args.self.now.oracle.queue c.args.self.now.oracle.out c.next_group.new.self c.args.self.now.group _ _ c.in_ok-next_group.ensures.ok (λ f. absurd (cc))

pub returns-in-None-clause-next : goal.returns-in-None-clause-next
returns-in-None-clause-next c =
    let e = sym c.in_ok-next_group.ensures.request ∙ c.in-None.is in
    let kept = regroups c.args.self.now.oracle.queue c.args.self.now.oracle.out c.next_group.new.self c.args.self.now.group _ c.in_ok-next_group.field-0 c.in_ok-next_group.ensures.ok (λ f. (e, refl)) in
    record { request_is = e; oracle = c.in_ok-next_group.ensures.ok; none = λ f. (kept.none c.in-None.is).0 }

pub returns-in_ok-askers-in-Some-clause-next : goal.returns-in_ok-askers-in-Some-clause-next
returns-in_ok-askers-in-Some-clause-next c = record { request_is = sym c.in_ok-next_group.ensures.request ∙ c.in-Some.is; oracle = c.in_ok-next_group.ensures.ok; none = λ f. absurd (cc) }
