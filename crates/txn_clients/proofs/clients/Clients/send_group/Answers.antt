use Rattle.std.proofs.Common.{ap}
use Rattle.txn_clients.specs.Clients.{of_calls, sight_of, stands_of}
use Rattle.txn_clients.specs.Going.{Advances}
use Rattle.txn_clients.proofs.Advances.{advances_left, advances_then}
use Rattle.txn_clients.proofs.Telling.{on_ok}
use Rattle.txn_clients.proofs.Grouping.{group_goes, none_goes}
use Rattle.txn_clients.proofs.Numbers.{ok_three}
use Rattle.txn_clients.proofs.Groups.{groups_between, groups_more}
use Rattle.std.proofs.Common.{subst}
use Rattle.std.specs.Prelude.{option_map}
use Rattle.txn_clients.specs.Arising.{GroupsNext}
use Rattle.txn_clients.specs.Waiting.{book_at}
use Rattle.txn_clients.proofs.Numbers.{ok_four}
use Rattle.txn_clients.proofs.Grouped.{group_sends, jobs_last, none_sends}
use Rattle.txn_clients.proofs.clients.Clients.send_group.Goals as goal

pub returns-in-None-clause-advances : goal.returns-in-None-clause-advances
returns-in-None-clause-advances g c =
    let done = c.in_ok-next_group.ensures in
    advances_left c.args.turn.now (sight_of c.args.self.now) (sight_of c.next_group.new.self) done.crashed (ap stands_of done.rows) (ap of_calls done.nexts) done.groups

pub returns-in-Some-clause-advances : goal.returns-in-Some-clause-advances
returns-in-Some-clause-advances g c =
    let done = c.in_ok-next_group.ensures in
    let old = sight_of c.args.self.now in
    let mid = sight_of c.next_group.new.self in
    on_ok c.send_request.result
    (λ (a : Advances c.args.turn.now c.send_request.new.turn mid (sight_of c.send_request.new.self)).
    advances_then c.args.turn.now c.args.turn.now c.send_request.new.turn old mid (sight_of c.send_request.new.self)
    (advances_left c.args.turn.now old mid done.crashed (ap stands_of done.rows) (ap of_calls done.nexts) done.groups) a)
    c.send_request.ensures.advances

pub returns-in-None-clause-waits : goal.returns-in-None-clause-waits
returns-in-None-clause-waits g c trace rest sound =
    let done = c.in_ok-next_group.ensures in
    none_goes _ g.met.P.Plans.lawful trace c.args.self.now c.next_group.new.self c.args.client rest c.args.turn.now.posted.items _ done.regroups c.in-None.is done.rows done.nexts done.crashed sound

pub returns-in-Some-clause-waits : goal.returns-in-Some-clause-waits
returns-in-Some-clause-waits g c = ok_three c.send_request.result
    (λ sent rows crashed trace rest sound.
    let done = c.in_ok-next_group.ensures in
    group_goes _ g.met.P.Plans.lawful trace c.args.self.now c.next_group.new.self c.send_request.new.self c.args.client rest c.args.turn.now.posted.items c.send_request.new.turn.posted.items _ done.regroups done.rows done.nexts done.crashed sent rows crashed sound)
    c.send_request.ensures.sends c.send_request.ensures.rows c.send_request.ensures.crashed

pub returns-in-None-clause-groups : goal.returns-in-None-clause-groups
returns-in-None-clause-groups g c group out = groups_more (sight_of c.args.self.now) (sight_of c.next_group.new.self) group c.args.turn.now.posted.items (c.in_ok-next_group.ensures.groups group out)

pub returns-in-Some-clause-groups : goal.returns-in-Some-clause-groups
returns-in-Some-clause-groups g c = on_ok c.send_request.result (λ f group out. groups_between (sight_of c.args.self.now) (sight_of c.next_group.new.self) group c.send_request.new.turn.posted.items c.in_ok-next_group.ensures.groups (f group out)) c.send_request.ensures.groups

pub returns-in-None-clause-leads : goal.returns-in-None-clause-leads
returns-in-None-clause-leads g c =
    let done = c.in_ok-next_group.ensures in
    none_sends _ g.met.P.Plans.lawful (jobs_last g.P.Plans.ways.plan g.met.P.Plans.lawful g.P.Plans.ways.uncommitted g.P.Plans.ways.costs.commits g.met.P.Plans.lasting.uncommitted) c.args.self.now c.next_group.new.self c.args.client c.args.turn.now.posted.items c.args.turn.now.ended.items _
    (subst (λ o. GroupsNext (option_map (λ x. x.request) o) (book_at c.args.self.now c.args.client) (book_at c.next_group.new.self c.args.client)) c.in-None.is done.next) done.regroups.books done.rows done.nexts done.regroups.asks

pub returns-in-Some-clause-leads : goal.returns-in-Some-clause-leads
returns-in-Some-clause-leads g c = ok_four c.send_request.result
    (λ sent posts rows ended.
    let done = c.in_ok-next_group.ensures in
    group_sends _ g.met.P.Plans.lawful (jobs_last g.P.Plans.ways.plan g.met.P.Plans.lawful g.P.Plans.ways.uncommitted g.P.Plans.ways.costs.commits g.met.P.Plans.lasting.uncommitted) c.args.self.now c.next_group.new.self c.send_request.new.self c.args.client c.in-Some.group.request c.in-Some.group.askers c.args.turn.now.posted.items c.send_request.new.turn.posted.items c.args.turn.now.ended.items c.send_request.new.turn.ended.items _
    (subst (λ o. GroupsNext (option_map (λ x. x.request) o) (book_at c.args.self.now c.args.client) (book_at c.next_group.new.self c.args.client)) c.in-Some.is done.next) done.regroups.books done.rows done.nexts done.regroups.asks sent posts rows (ap (λ v. v.items) ended))
    c.send_request.ensures.sends c.send_request.ensures.exact c.send_request.ensures.rows c.send_request.ensures.ended
