use Rattle.std.proofs.Common.{◌∙◌, ◌-◌, refl, sym}
use Rattle.txn_clients.specs.Clients.{rows_of, stands_of}
use Rattle.txn_clients.specs.declared.row.Row.TheVariants as row
use Rattle.txn_clients.proofs.Telling.{hears_as, hears_begun, hears_own}
use Rattle.txn_clients.proofs.Hearing.{call_unheard, none_hears}
use Rattle.txn_clients.proofs.clients.Clients.listener_of.Goals as goal

pub returns-in-Asking-clause-hears : goal.returns-in-Asking-clause-hears
returns-in-Asking-clause-hears g c = hears_as (rows_of c.args.self.now) c.args.line (c.args.line - 1) (row.Asking c.in-Asking.client c.in-Asking.begins c.in-Asking.call) c.requires (sym c.row.ensures ∙ c.in-Asking.is) (hears_own c.args.line c.requires.first)

pub returns-in-Working-clause-hears : goal.returns-in-Working-clause-hears
returns-in-Working-clause-hears g c = hears_as (rows_of c.args.self.now) c.args.line (c.args.line - 1) (row.Working c.in-Working.client c.in-Working.job) c.requires (sym c.row.ensures ∙ c.in-Working.is) (hears_own c.args.line c.requires.first)

pub returns-else-not-waits_for-clause-hears : goal.returns-else-not-waits_for-clause-hears
returns-else-not-waits_for-clause-hears g c =
    let waits = c.if-not-waits_for.ensures.is refl in
    hears_as (rows_of c.args.self.now) c.args.line (c.in-Calling.transaction - 1) (row.Calling c.in-Calling.client c.in-Calling.transaction c.in-Calling.commits) c.requires (sym c.row.ensures ∙ c.in-Calling.is)
    (hears_begun (stands_of (rows_of c.args.self.now)) c.in-Calling.transaction waits.0 c.args.line waits.1, waits)

pub returns-then-not-waits_for-clause-none : goal.returns-then-not-waits_for-clause-none
returns-then-not-waits_for-clause-none g c e = call_unheard (rows_of c.args.self.now) c.args.line c.in-Calling.client c.in-Calling.transaction c.in-Calling.commits c.requires (sym c.row.ensures ∙ c.in-Calling.is) (c.if-not-waits_for.ensures.not refl)

pub returns-in_default-clause-none : goal.returns-in_default-clause-none
returns-in_default-clause-none g c e = none_hears (rows_of c.args.self.now) c.args.line c.row.result.now c.requires c.row.ensures c.in_default.not-Asking c.in_default.not-Working c.in_default.not-Calling
