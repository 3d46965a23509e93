use Rattle.std.proofs.Common.{◌∙◌, ◌-◌, ap, refl, set, sym, subst}
use Rattle.txn_side.specs.Sight.{NoneGiven, stand_at}
use Rattle.txn_clients.specs.Clients.{rows_of, stands_of, MayEnd}
use Rattle.txn_clients.proofs.Naming.{names_one, names_quiet, none_named}
use Rattle.txn_clients.proofs.Telling.{call_line, called_advances, called_live, called_ready, stands_at}
use Rattle.txn_clients.proofs.Accounting.{called_kept, ends_call, ends_other}
use Rattle.txn_clients.specs.Rows.{stand_of}
use Rattle.txn_clients.specs.Waiting.{AreRunning}
use Rattle.txn_clients.specs.declared.row.Row.TheVariants as row
use Rattle.txn_clients.proofs.Settling.{called_goes_on, calling_row, ended_running, ended_client, past_arises, quiet_goes, call_past}
use Rattle.txn_clients.proofs.Sights.{call_settles}
use Rattle.txn_clients.proofs.Showing.{calling_kind, one_more, reason_so}
use Rattle.txn_clients.proofs.Sounding.{no_more}
use Rattle.txn_clients.specs.Failing.{posting_in}
use Rattle.txn_side.specs.Trace.CallKind.{OfTransaction}
use Rattle.txn_clients.proofs.Tables.{stand_of_line}
use Rattle.txn_clients.proofs.Chaining.{leads_nothing}
use Rattle.txn_clients.proofs.Ended.{call_ends}
use Rattle.txn_clients.specs.Arising.{heard_by}
use Rattle.txn_clients.proofs.clients.Clients.end_call.Goals as goal

pub set_waits-requires : goal.set_waits-requires
set_waits-requires g c = call_line (rows_of c.args.self.now) c.args.line c.in-Calling.transaction c.in-Calling.client c.in-Calling.commits c.requires.line (sym c.row.ensures ∙ c.in-Calling.is) c.requires.may

pub returns-in_ok-push-in-Calling-clause-advances : goal.returns-in_ok-push-in-Calling-clause-advances
returns-in_ok-push-in-Calling-clause-advances g c =
    called_advances _ c.args.self.now c.set_row.new.self c.args.turn.now (record { posted = c.args.turn.now.posted; ended = c.push.new.self }) c.args.line c.in-Calling.transaction c.in-Calling.client c.in-Calling.commits c.in_ok-ended-in-Calling.ended.row c.in_ok-ended-in-Calling.ended.outcome
    c.requires.line c.requires.live (sym c.row.ensures ∙ c.in-Calling.is) c.requires.may c.requires.ready c.in_ok-ended-in-Calling.ensures.ends
    (c.set_row.ensures.rows ∙ ap (λ rs. set rs (c.args.line - 1) c.in_ok-ended-in-Calling.ended.row) c.set_waits.ensures.rows) (c.set_row.ensures.nexts ∙ c.set_waits.ensures.nexts) (c.set_row.ensures.clients ∙ c.set_waits.ensures.clients) refl c.in_ok-push-in-Calling.ensures.items

pub returns-in_ok-push-in-Calling-clause-live : goal.returns-in_ok-push-in-Calling-clause-live
returns-in_ok-push-in-Calling-clause-live g c =
    called_live _ c.args.self.now c.set_row.new.self c.args.line c.in-Calling.transaction c.in-Calling.client c.in-Calling.commits c.in_ok-ended-in-Calling.ended.row c.in_ok-ended-in-Calling.ended.outcome
    c.requires.line c.requires.live (sym c.row.ensures ∙ c.in-Calling.is) c.requires.may c.requires.ready c.in_ok-ended-in-Calling.ensures.ends
    (c.set_row.ensures.rows ∙ ap (λ rs. set rs (c.args.line - 1) c.in_ok-ended-in-Calling.ended.row) c.set_waits.ensures.rows) (c.set_row.ensures.nexts ∙ c.set_waits.ensures.nexts) (c.set_row.ensures.clients ∙ c.set_waits.ensures.clients)

pub returns-in_ok-push-in-Calling-clause-ready : goal.returns-in_ok-push-in-Calling-clause-ready
returns-in_ok-push-in-Calling-clause-ready g c =
    called_ready _ (rows_of c.args.self.now) (rows_of c.set_row.new.self) c.args.line c.in-Calling.transaction c.in-Calling.client c.in-Calling.commits c.in_ok-ended-in-Calling.ended.row c.in_ok-ended-in-Calling.ended.outcome
    c.requires.line (sym c.row.ensures ∙ c.in-Calling.is) c.requires.may c.requires.ready c.in_ok-ended-in-Calling.ensures.ready c.in_ok-ended-in-Calling.ensures.ends
    (c.set_row.ensures.rows ∙ ap (λ rs. set rs (c.args.line - 1) c.in_ok-ended-in-Calling.ended.row) c.set_waits.ensures.rows)

pub returns-in_ok-push-in-Calling-clause-names : goal.returns-in_ok-push-in-Calling-clause-names
returns-in_ok-push-in-Calling-clause-names g c =
    names_one NoneGiven c.args.turn.now (record { posted = c.args.turn.now.posted; ended = c.push.new.self }) (record { line = c.args.line; outcome = c.in_ok-ended-in-Calling.ended.outcome }) c.in_ok-push-in-Calling.ensures.items
    (λ version e. none_named c.in_ok-ended-in-Calling.ended.outcome version c.in_ok-ended-in-Calling.ensures.number e)

pub returns-in_default-clause-names : goal.returns-in_default-clause-names
returns-in_default-clause-names g c = names_quiet NoneGiven c.args.turn.now c.args.turn.now refl

pub returns-in_ok-push-in-Calling-clause-accounts : goal.returns-in_ok-push-in-Calling-clause-accounts
returns-in_ok-push-in-Calling-clause-accounts g c = called_kept (rows_of c.args.self.now) (rows_of c.set_row.new.self) c.args.line c.in-Calling.transaction c.in-Calling.client c.in-Calling.commits c.in_ok-ended-in-Calling.ended.row (sym c.row.ensures ∙ c.in-Calling.is) c.in_ok-ended-in-Calling.ensures.account
    (c.set_row.ensures.rows ∙ ap (λ rs. set rs (c.args.line - 1) c.in_ok-ended-in-Calling.ended.row) c.set_waits.ensures.rows)

pub returns-in_default-clause-accounts : goal.returns-in_default-clause-accounts
returns-in_default-clause-accounts g c n = refl

pub returns-in_ok-push-in-Calling-clause-ends : goal.returns-in_ok-push-in-Calling-clause-ends
returns-in_ok-push-in-Calling-clause-ends g c = ends_call c.args.line c.in-Calling.client c.in-Calling.transaction c.in-Calling.commits (stand_at (stands_of (rows_of c.args.self.now)) c.args.line) c.args.answer c.in_ok-ended-in-Calling.ended.outcome c.args.turn.now.ended.items c.push.new.self.items
    (stands_at (rows_of c.args.self.now) c.args.line _ c.requires.line (sym c.row.ensures ∙ c.in-Calling.is)) c.in_ok-push-in-Calling.ensures.items c.in_ok-ended-in-Calling.ensures.outcome

pub returns-in_default-clause-ends : goal.returns-in_default-clause-ends
returns-in_default-clause-ends g c = ends_other c.row.result.now c.args.line (stand_at (stands_of (rows_of c.args.self.now)) c.args.line) c.args.answer c.args.turn.now.ended.items c.args.turn.now.ended.items
    (stand_of_line (rows_of c.args.self.now) c.args.line c.requires.line.first ∙ ap stand_of (sym c.row.ensures)) c.in_default.not-Calling

pub returns-in_ok-push-in-Calling-clause-waits : goal.returns-in_ok-push-in-Calling-clause-waits
returns-in_ok-push-in-Calling-clause-waits g c trace client rest fails last sound =
    let calls = stands_at (rows_of c.args.self.now) c.args.line (row.Calling c.in-Calling.client c.in-Calling.transaction c.in-Calling.commits) c.requires.line (sym c.row.ensures ∙ c.in-Calling.is) in
    let may = subst (MayEnd (rows_of c.args.self.now) c.args.line) calls c.requires.may in
    let now = posting_in c.args.turn.now.posted.items trace in
    called_goes_on _ g.met.P.Plans.lawful trace c.args.self.now c.set_row.new.self c.args.line c.in-Calling.transaction client c.in-Calling.client may.0 c.in-Calling.commits c.in_ok-ended-in-Calling.ended.row rest c.args.turn.now.posted.items c.args.turn.now.ended.items c.push.new.self.items
    c.requires.line calls may.1 may.2 (call_settles c.in-Calling.client c.in-Calling.commits c.in_ok-ended-in-Calling.ended.outcome (stand_of c.in_ok-ended-in-Calling.ended.row) c.in_ok-ended-in-Calling.ensures.ends) c.in_ok-ended-in-Calling.ensures.ready
    (past_arises _ c.in-Calling.client c.in_ok-ended-in-Calling.ended.row (call_past c.in-Calling.client c.in-Calling.commits c.in_ok-ended-in-Calling.ended.outcome (stand_of c.in_ok-ended-in-Calling.ended.row) c.in_ok-ended-in-Calling.ensures.ends) now)
    (c.set_row.ensures.rows ∙ ap (λ rs. set rs (c.args.line - 1) c.in_ok-ended-in-Calling.ended.row) c.set_waits.ensures.rows) (c.set_row.ensures.nexts ∙ c.set_waits.ensures.nexts) (c.set_row.ensures.asks ∙ c.set_waits.ensures.asks) (c.set_row.ensures.clients ∙ c.set_waits.ensures.clients)
    (one_more _ now c.args.turn.now.ended.items c.push.new.self.items (record { line = c.args.line; outcome = c.in_ok-ended-in-Calling.ended.outcome }) c.in_ok-push-in-Calling.ensures.items
    (reason_so g.P.Plans.ways OfTransaction now c.args.line c.in-Calling.transaction c.in_ok-ended-in-Calling.ended.outcome c.args.answer (calling_kind (stands_of (rows_of c.args.self.now)) c.args.line c.in-Calling.transaction c.in-Calling.client may.0 c.in-Calling.commits calls may.1) (sound.told.calls c.args.line c.in-Calling.client c.in-Calling.transaction c.in-Calling.commits calls) c.in_ok-ended-in-Calling.ensures.failed c.in_ok-ended-in-Calling.ensures.fed
    (fails c.in-Calling.client c.in-Calling.transaction c.in-Calling.commits calls) last)) sound

pub returns-in_ok-push-in-Calling-clause-runs : goal.returns-in_ok-push-in-Calling-clause-runs
returns-in_ok-push-in-Calling-clause-runs g c d x b e but =
    let calls = stands_at (rows_of c.args.self.now) c.args.line (row.Calling c.in-Calling.client c.in-Calling.transaction c.in-Calling.commits) c.requires.line (sym c.row.ensures ∙ c.in-Calling.is) in
    let may = subst (MayEnd (rows_of c.args.self.now) c.args.line) calls c.requires.may in
    subst AreRunning (sym (c.set_row.ensures.rows ∙ ap (λ rs. set rs (c.args.line - 1) c.in_ok-ended-in-Calling.ended.row) c.set_waits.ensures.rows))
    (ended_running (rows_of c.args.self.now) c.args.line x d c.in-Calling.client c.in-Calling.transaction may.0 b c.in-Calling.commits c.in_ok-ended-in-Calling.ended.row c.requires.line e calls may.1 but
    (call_settles c.in-Calling.client c.in-Calling.commits c.in_ok-ended-in-Calling.ended.outcome (stand_of c.in_ok-ended-in-Calling.ended.row) c.in_ok-ended-in-Calling.ensures.ends))

pub returns-in_ok-push-in-Calling-clause-clients : goal.returns-in_ok-push-in-Calling-clause-clients
returns-in_ok-push-in-Calling-clause-clients g c d e =
    let calls = stands_at (rows_of c.args.self.now) c.args.line (row.Calling c.in-Calling.client c.in-Calling.transaction c.in-Calling.commits) c.requires.line (sym c.row.ensures ∙ c.in-Calling.is) in
    ended_client (rows_of c.args.self.now) (rows_of c.set_row.new.self) c.args.line c.in-Calling.transaction c.in-Calling.client d c.in-Calling.commits c.in_ok-ended-in-Calling.ended.row c.requires.line calls e
    (call_settles c.in-Calling.client c.in-Calling.commits c.in_ok-ended-in-Calling.ended.outcome (stand_of c.in_ok-ended-in-Calling.ended.row) c.in_ok-ended-in-Calling.ensures.ends)
    (c.set_row.ensures.rows ∙ ap (λ rs. set rs (c.args.line - 1) c.in_ok-ended-in-Calling.ended.row) c.set_waits.ensures.rows)

pub returns-in_default-clause-waits : goal.returns-in_default-clause-waits
returns-in_default-clause-waits g c trace client rest fails last sound =
    quiet_goes _ trace c.args.self.now c.args.self.now client rest c.args.turn.now.posted.items c.args.turn.now.ended.items c.args.turn.now.ended.items sound (no_more _ (posting_in c.args.turn.now.posted.items trace) c.args.turn.now.ended.items) (λ n a x. x) (λ n. refl)

pub returns-in_default-clause-runs : goal.returns-in_default-clause-runs
returns-in_default-clause-runs g c d x b e but =
    let r = calling_row c.row.result.now d x b (ap stand_of c.row.ensures ∙ sym (stand_of_line (rows_of c.args.self.now) c.args.line c.requires.line.first) ∙ e) in
    absurd (c.in_default.not-Calling d x b r)

pub returns-in_ok-push-in-Calling-clause-leads : goal.returns-in_ok-push-in-Calling-clause-leads
returns-in_ok-push-in-Calling-clause-leads g c =
    let may = subst (MayEnd (rows_of c.args.self.now) c.args.line) (stands_at (rows_of c.args.self.now) c.args.line (row.Calling c.in-Calling.client c.in-Calling.transaction c.in-Calling.commits) c.requires.line (sym c.row.ensures ∙ c.in-Calling.is)) c.requires.may in
    call_ends _ c.args.self.now c.set_waits.new.self c.set_row.new.self c.args.line c.in-Calling.transaction c.in-Calling.client may.0 c.in-Calling.commits c.in_ok-ended-in-Calling.ended.row c.in_ok-ended-in-Calling.ended.outcome c.args.answer c.args.turn.now.posted.items c.args.turn.now.ended.items c.push.new.self.items
    c.requires.line (sym c.row.ensures ∙ c.in-Calling.is) may.1 may.2 c.set_waits.ensures.rows c.set_waits.ensures.nexts c.set_waits.ensures.asks c.set_waits.ensures.clients c.set_row.ensures.rows c.set_row.ensures.nexts c.set_row.ensures.asks c.set_row.ensures.clients
    c.in_ok-ended-in-Calling.ensures.leaves c.in_ok-ended-in-Calling.ensures.outcome c.in_ok-push-in-Calling.ensures.items

pub returns-in_default-clause-leads : goal.returns-in_default-clause-leads
returns-in_default-clause-leads g c askers rest h came arisen = leads_nothing _ askers rest c.args.turn.now.posted.items c.args.turn.now.ended.items (heard_by c.args.self.now) c.args.self.now h arisen
