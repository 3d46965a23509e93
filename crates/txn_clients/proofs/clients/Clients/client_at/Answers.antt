use Rattle.std.proofs.Common.{◌≤◌, ◌∙◌, arith}
use Rattle.txn_clients.proofs.Places.{client_of_line}
use Rattle.txn_clients.proofs.clients.Clients.client_at.Goals as goal

pub returns : goal.returns
returns g c = let one : 1 ≤ c.args.line = omega arith in c.client.ensures ∙ client_of_line c.args.self.now c.args.line c.row.result.now one c.row.ensures
