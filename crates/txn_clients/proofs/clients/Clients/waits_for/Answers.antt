use Rattle.std.proofs.Common.{◌∙◌, sym, arith}
use Rattle.txn_clients.specs.Clients.{rows_of}
use Rattle.txn_clients.proofs.Telling.{waits_so}
use Rattle.txn_clients.proofs.Hearing.{other_not, waits_not}
use Rattle.txn_clients.proofs.clients.Clients.waits_for.Goals as goal

pub returns-in-Begun-clause-is : goal.returns-in-Begun-clause-is
returns-in-Begun-clause-is g c = waits_so (rows_of c.args.self.now) c.args.transaction c.args.line c.in-Begun.client c.in-Begun.waits c.in-Begun.transaction (omega arith) (sym c.row.ensures ∙ c.in-Begun.is)

pub returns-in-Begun-clause-not : goal.returns-in-Begun-clause-not
returns-in-Begun-clause-not g c test d e = waits_not (rows_of c.args.self.now) c.args.transaction c.args.line c.in-Begun.client c.in-Begun.waits d c.in-Begun.transaction (omega arith) (sym c.row.ensures ∙ c.in-Begun.is) test e

pub returns-in_default-clause-not : goal.returns-in_default-clause-not
returns-in_default-clause-not g c test d e = other_not (rows_of c.args.self.now) c.args.transaction c.args.line d c.row.result.now (omega arith) c.row.ensures c.in_default.not-Begun e
