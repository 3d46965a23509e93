use Rattle.std.proofs.Common.{◌≡◌, ◌∙◌, arith, length, refl, ◌-◌, sym, ap}
use Rattle.std.proofs.lemmas.List.{length-map}
use Rattle.txn_clients.specs.Clients.{crashed_of, rows_of}
use Rattle.txn_clients.specs.declared.client_state.ClientState.{ClientState}
use Rattle.txn_clients.proofs.Asking.{connected_ready, connected_sight, newest_idle, newest_is, pushed_crashed, pushed_groups}
use Rattle.txn_clients.proofs.Tables.{same_clients, same_groups}
use Rattle.txn_clients.specs.declared.row.Row.TheVariants as row
use Rattle.txn_clients.proofs.Accounting.{idle_line, kept_at}
use Rattle.txn_clients.proofs.Sides.{connected_all, connected_rests, connected_waits}
use Rattle.txn_clients.proofs.Unmoved.{connected_arises}
use Rattle.txn_clients.proofs.clients.asking.ClientsClientSide.connect.Goals as goal

pub returns : goal.returns
returns g c =
    let s = c.args.self.now in
    let t = c.set_row.new.self in
    let lawful = g.met.P.Plans.lawful in
    let pushed = record s { clients = c.push.new.self } in
    let long = length-map s.clients.items (λ (d : ClientState). d.crashed) in
    let new : c.len-client.result ≡ length (crashed_of s) = omega arith in
    let line = newest_is s c.newest.result c.requires.line c.newest.ensures in
    let idle = newest_idle s c.newest.result c.newest.ensures (c.if-not-is_new.ensures refl) in
    let crashed = same_clients pushed t c.set_row.ensures.clients ∙ pushed_crashed s pushed c.new.result c.in_ok-push.ensures.items c.new.ensures.crashed in
    let groups = same_groups pushed t c.set_row.ensures.clients ∙ pushed_groups s pushed c.new.result c.in_ok-push.ensures.items c.new.ensures.group in
    let clients = ap (λ v. v.items) c.set_row.ensures.clients ∙ c.in_ok-push.ensures.items in
    record {
      seen = connected_sight s t c.newest.result c.len-client.result c.newest.ensures new crashed groups c.set_row.ensures.rows c.set_row.ensures.nexts;
      waits = connected_waits g.P.Plans.ways lawful s t c.newest.result c.len-client.result c.new.result line clients c.new.ensures.book c.set_row.ensures.rows;
      ready = connected_all _ lawful s t c.newest.result c.len-client.result c.new.result line idle new clients c.new.ensures.book crashed c.set_row.ensures.rows c.set_row.ensures.nexts c.set_row.ensures.asks
          (connected_ready _ (rows_of s) (rows_of t) c.newest.result c.len-client.result line idle c.requires.ready.rows c.set_row.ensures.rows) c.requires.ready;
      accounts = kept_at (rows_of s) (rows_of t) (c.newest.result - 1) (row.Client c.len-client.result) c.set_row.ensures.rows (sym (idle_line (rows_of s) c.newest.result line idle));
      rests = λ trace was. connected_rests _ lawful trace s t c.newest.result c.len-client.result c.new.result line idle new clients c.new.ensures.book crashed c.set_row.ensures.rows c.set_row.ensures.nexts c.set_row.ensures.asks c.requires.ready.rows.matched was;
      arises = connected_arises g.P.Plans.ways lawful s t c.newest.result c.len-client.result c.new.result line idle clients c.new.ensures.book c.set_row.ensures.rows c.set_row.ensures.nexts c.set_row.ensures.asks;
    }
