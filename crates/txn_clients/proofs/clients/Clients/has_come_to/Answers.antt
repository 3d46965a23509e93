use Rattle.std.proofs.Common.{◌∙◌, ap, subst, sym}
use Rattle.txn_side.specs.Sight.{stand_at}
use Rattle.txn_clients.specs.Clients.{row_at, rows_of, stands_of}
use Rattle.txn_clients.specs.Closing.{HasComeTo}
use Rattle.txn_clients.specs.Rows.{stand_of}
use Rattle.txn_clients.specs.declared.row.Row.TheVariants as row
use Rattle.txn_clients.proofs.Accounting.{come_other}
use Rattle.txn_clients.proofs.Tables.{stand_of_line}
use Rattle.txn_clients.proofs.Telling.{stands_at}
use Rattle.txn_clients.proofs.clients.Clients.has_come_to.Goals as goal

pub returns-in-Calling : goal.returns-in-Calling
returns-in-Calling g c there =
    let rows = rows_of c.args.self.now in
    let calls = stands_at rows c.args.line (row.Calling c.in-Calling.client c.in-Calling.transaction c.in-Calling.commits) c.requires.line (sym c.row.ensures ∙ c.in-Calling.is) in
    subst (λ st. HasComeTo st c.args.answer.now (row_at rows c.args.at)) (sym calls) (c.stands_at.ensures there)

pub returns-in_default : goal.returns-in_default
returns-in_default g c there = come_other c.row.result.now (row_at (rows_of c.args.self.now) c.args.at) (stand_at (stands_of (rows_of c.args.self.now)) c.args.line) c.args.answer.now
    (stand_of_line (rows_of c.args.self.now) c.args.line c.requires.line.first ∙ ap stand_of (sym c.row.ensures)) c.in_default.not-Calling
