use Rattle.std.proofs.Common.{◌≤◌, ◌∙◌, arith, sym}
use Rattle.txn_clients.specs.Clients.{rows_of}
use Rattle.txn_clients.specs.declared.row.Row.TheVariants.{Begun}
use Rattle.txn_clients.proofs.Lent.{heart_line}
use Rattle.txn_clients.proofs.Timestamps.{both_if_ok}
use Rattle.txn_clients.proofs.clients.hearts.ClientsHeartHost.heartbeat.Goals as goal

pub returns-in-Begun-clause-heart : goal.returns-in-Begun-clause-heart
returns-in-Begun-clause-heart g c =
    let one : 1 ≤ c.args.transaction = omega arith in
    both_if_ok c.heartbeat.result _ _ _
    (λ beat there is. heart_line (rows_of c.args.self.now) c.args.transaction (Begun c.in-Begun.client c.in-Begun.transaction c.in-Begun.waits) beat one (sym c.in-Begun.is ∙ c.row.ensures) (there, is))
    c.heartbeat.ensures.there c.heartbeat.ensures.beat
