use Rattle.std.proofs.Common.{refl, ap, get_or}
use Rattle.std.specs.Vec.{with_item}
use Rattle.txn_history.specs.Turn.{turn_of}
use Rattle.txn_heartbeat.proofs.Beating.{has_heard}
use Rattle.txn_clients.specs.Clients.{crashed_of}
use Rattle.txn_clients.specs.Waiting.{blank}
use Rattle.txn_clients.proofs.Grouping.{books_kept}
use Rattle.txn_clients.proofs.Hearts.{lent_ready, lent_stays}
use Rattle.txn_clients.proofs.Lent.{on_ok_so}
use Rattle.txn_clients.proofs.Listening.{within}
use Rattle.txn_clients.proofs.Places.{crashed_kept}
use Rattle.txn_clients.proofs.Sending.{groups_kept}
use Rattle.txn_clients.proofs.clients.hearts.ClientsHeartHost.beat.Goals as goal

pub returns-in-Some-clause-stays : goal.returns-in-Some-clause-stays
returns-in-Some-clause-stays g c =
    let was = c.index_mut.result.now in
    let lent = record was { client = record was.client { pd = c.tell.new.pd } } in
    let there = within (crashed_of c.args.self.now) c.in-Some.client c.in-Some.ensures.there in
    on_ok_so c.tell.result (lent_stays g.P.Plans.ways g.met.P.Plans.lawful
    c.args.self.now (record c.args.self.now { clients = with_item c.args.self.now.clients c.in-Some.client lent }) refl
    (crashed_kept c.args.self.now.clients.items c.in-Some.client lent was there c.index_mut.ensures.value refl)
    (groups_kept c.args.self.now.clients.items c.in-Some.client lent was there c.index_mut.ensures.value refl)
    (λ d. ap (λ bs. get_or bs d blank) (books_kept c.args.self.now.clients.items c.in-Some.client lent was there c.index_mut.ensures.value refl)))

pub returns-in-Some-clause-ready : goal.returns-in-Some-clause-ready
returns-in-Some-clause-ready g c =
    let was = c.index_mut.result.now in
    let lent = record was { client = record was.client { pd = c.tell.new.pd } } in
    let there = within (crashed_of c.args.self.now) c.in-Some.client c.in-Some.ensures.there in
    on_ok_so c.tell.result (lent_ready _ g.met.P.Plans.lawful
    c.args.self.now (record c.args.self.now { clients = with_item c.args.self.now.clients c.in-Some.client lent }) refl
    (crashed_kept c.args.self.now.clients.items c.in-Some.client lent was there c.index_mut.ensures.value refl)
    (λ d. ap (λ bs. get_or bs d blank) (books_kept c.args.self.now.clients.items c.in-Some.client lent was there c.index_mut.ensures.value refl))
    c.requires.ready)

pub returns-in-Some-clause-heard : goal.returns-in-Some-clause-heard
returns-in-Some-clause-heard g c =
    has_heard g.H.Plan.meaning c.args.arrival c.args.status c.args.now c.args.job.now c.tell.new.self c.args.out.now c.tell.new.out (turn_of c.tell.result) c.tell.result
    c.tell.ensures.asleep c.tell.ensures.ends c.tell.ensures.wakes c.tell.ensures.tells c.tell.ensures.over
