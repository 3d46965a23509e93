use Rattle.txn_clients.specs.Clients.{rows_of}
use Rattle.txn_clients.proofs.Asking.{opened_ready, opened_rows}
use Rattle.txn_clients.proofs.Accounting.{kept_opened}
use Rattle.std.proofs.Common.{ap, refl}
use Rattle.txn_clients.proofs.Sides.{opened_ready_all, opened_rests, opened_waits_all}
use Rattle.txn_clients.proofs.Unmoved.{opened_arises}
use Rattle.txn_clients.proofs.Whole.{opened_sight}
use Rattle.txn_clients.proofs.clients.asking.ClientsClientSide.open.Goals as goal

pub returns : goal.returns
returns g c =
    let s = c.args.self.now in
    let t = record s { places = c.push.new.self } in
    let lawful = g.met.P.Plans.lawful in
    let items = c.in_ok-push.ensures.items in
    record {
      seen = opened_sight g.P.Plans.ways lawful s t c.new.result c.new.ensures items refl;
      waits = opened_waits_all g.P.Plans.ways lawful s t c.new.result c.new.ensures items refl;
      ready = opened_ready_all _ lawful s t c.new.result c.new.ensures items refl (opened_ready _ (rows_of s) (rows_of t) c.new.result c.new.ensures (opened_rows s t c.new.result items) c.requires.ready.rows) c.requires.ready;
      accounts = kept_opened (rows_of s) (rows_of t) c.new.result.row (ap (λ p. p.row) c.new.ensures) (opened_rows s t c.new.result items);
      rests = λ trace was. opened_rests _ lawful trace s t c.new.result c.new.ensures items refl was;
      arises = opened_arises g.P.Plans.ways lawful s t c.new.result c.new.ensures items refl;
    }
