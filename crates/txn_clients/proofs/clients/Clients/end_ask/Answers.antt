use Rattle.std.proofs.Common.{◌-◌, ◌∙◌, refl, sym, ap, subst}
use Rattle.txn_clients.specs.Clients.{rows_of}
use Rattle.txn_clients.specs.Closing.{ends_so}
use Rattle.txn_clients.specs.Going.{OfLine}
use Rattle.txn_clients.specs.Rows.{IsStamped, stand_of}
use Rattle.txn_clients.proofs.Naming.{names_one, names_quiet}
use Rattle.txn_clients.proofs.Telling.{asked_advances, asked_ready, one_ends, stands_at}
use Rattle.txn_clients.proofs.Accounting.{alone_so, asked_kept, ends_nothing}
use Rattle.txn_clients.specs.Waiting.{AreRunning}
use Rattle.txn_clients.specs.declared.row.Row.TheVariants as row
use Rattle.txn_clients.proofs.Settling.{asked_goes, asking_row, quiet_goes, row_within, settled_runs}
use Rattle.txn_clients.proofs.Sights.{ask_settles}
use Rattle.txn_clients.proofs.Showing.{ask_fails, one_more, own_kind, reason_so}
use Rattle.txn_clients.proofs.Sounding.{no_more, running_set}
use Rattle.txn_clients.specs.Failing.{posting_in}
use Rattle.txn_side.specs.Trace.CallKind.{ForTimestamp}
use Rattle.txn_clients.proofs.Tables.{stand_of_line}
use Rattle.txn_clients.proofs.Chaining.{leads_nothing}
use Rattle.txn_clients.proofs.Ended.{ask_ends}
use Rattle.txn_clients.specs.Arising.{heard_by}
use Rattle.txn_clients.proofs.clients.Clients.end_ask.Goals as goal

pub returns-in_ok-push-in-Asking-clause-advances : goal.returns-in_ok-push-in-Asking-clause-advances
returns-in_ok-push-in-Asking-clause-advances g c =
    asked_advances _ c.args.self.now c.set_row.new.self c.args.turn.now (record { posted = c.args.turn.now.posted; ended = c.push.new.self }) c.args.line c.in-Asking.client c.in-Asking.begins c.in-Asking.call c.in_ok-ended-in-Asking.ended.row c.in_ok-ended-in-Asking.ended.outcome
    c.requires.line c.requires.live (sym c.row.ensures ∙ c.in-Asking.is) c.requires.ready c.in_ok-ended-in-Asking.ensures.ends c.set_row.ensures.rows c.set_row.ensures.nexts c.set_row.ensures.clients refl c.in_ok-push-in-Asking.ensures.items

pub returns-in_ok-push-in-Asking-clause-alone : goal.returns-in_ok-push-in-Asking-clause-alone
returns-in_ok-push-in-Asking-clause-alone g c = one_ends c.args.line c.in_ok-ended-in-Asking.ended.outcome c.args.turn.now (record { posted = c.args.turn.now.posted; ended = c.push.new.self }) c.in_ok-push-in-Asking.ensures.items

pub returns-in_ok-push-in-Asking-clause-ready : goal.returns-in_ok-push-in-Asking-clause-ready
returns-in_ok-push-in-Asking-clause-ready g c =
    asked_ready _ (rows_of c.args.self.now) (rows_of c.set_row.new.self) c.args.line c.in-Asking.client c.in-Asking.begins c.in-Asking.call c.in_ok-ended-in-Asking.ended.row c.in_ok-ended-in-Asking.ended.outcome
    c.requires.line (sym c.row.ensures ∙ c.in-Asking.is) c.requires.ready c.in_ok-ended-in-Asking.ensures.ready c.in_ok-ended-in-Asking.ensures.ends c.set_row.ensures.rows

pub returns-in_ok-push-in-Asking-clause-names : goal.returns-in_ok-push-in-Asking-clause-names
returns-in_ok-push-in-Asking-clause-names g c =
    names_one (OfLine c.args.line (IsStamped c.args.answer)) c.args.turn.now (record { posted = c.args.turn.now.posted; ended = c.push.new.self }) (record { line = c.args.line; outcome = c.in_ok-ended-in-Asking.ended.outcome }) c.in_ok-push-in-Asking.ensures.items
    (λ version e. (refl, c.in_ok-ended-in-Asking.ensures.stamped version e))

pub returns-in_default-clause-names : goal.returns-in_default-clause-names
returns-in_default-clause-names g c = names_quiet (OfLine c.args.line (IsStamped c.args.answer)) c.args.turn.now c.args.turn.now refl

pub returns-in_ok-push-in-Asking-clause-accounts : goal.returns-in_ok-push-in-Asking-clause-accounts
returns-in_ok-push-in-Asking-clause-accounts g c = asked_kept (rows_of c.args.self.now) (rows_of c.set_row.new.self) c.args.line c.in-Asking.client c.in-Asking.begins c.in-Asking.call c.in_ok-ended-in-Asking.ended.row (sym c.row.ensures ∙ c.in-Asking.is) c.in_ok-ended-in-Asking.ensures.account c.set_row.ensures.rows

pub returns-in_default-clause-accounts : goal.returns-in_default-clause-accounts
returns-in_default-clause-accounts g c n = refl

pub returns-in_ok-push-in-Asking-clause-waits : goal.returns-in_ok-push-in-Asking-clause-waits
returns-in_ok-push-in-Asking-clause-waits g c new trace client rest fails last sound =
    let asks = stands_at (rows_of c.args.self.now) c.args.line (row.Asking c.in-Asking.client c.in-Asking.begins c.in-Asking.call) c.requires.line (sym c.row.ensures ∙ c.in-Asking.is) in
    let now = posting_in c.args.turn.now.posted.items trace in
    asked_goes _ g.met.P.Plans.lawful trace c.args.self.now c.set_row.new.self c.args.line client c.in-Asking.client c.in-Asking.begins c.in_ok-ended-in-Asking.ended.row rest c.args.turn.now.posted.items c.args.turn.now.ended.items c.push.new.self.items
    c.requires.line asks (ask_settles c.in-Asking.client c.in-Asking.begins c.in_ok-ended-in-Asking.ended.outcome (stand_of c.in_ok-ended-in-Asking.ended.row) c.in_ok-ended-in-Asking.ensures.ends) c.in_ok-ended-in-Asking.ensures.ready (c.in_ok-ended-in-Asking.ensures.arises new now c.args.line c.args.line fails sound.owing)
    c.set_row.ensures.rows c.set_row.ensures.nexts c.set_row.ensures.asks c.set_row.ensures.clients
    (one_more _ now c.args.turn.now.ended.items c.push.new.self.items (record { line = c.args.line; outcome = c.in_ok-ended-in-Asking.ended.outcome }) c.in_ok-push-in-Asking.ensures.items
    (reason_so g.P.Plans.ways ForTimestamp now c.args.line c.args.line c.in_ok-ended-in-Asking.ended.outcome c.args.answer (own_kind c.args.line) (sound.told.asks c.args.line c.in-Asking.client c.in-Asking.begins asks) c.in_ok-ended-in-Asking.ensures.failed c.in_ok-ended-in-Asking.ensures.fed (ask_fails g.P.Plans.ways now c.args.line c.args.line c.args.answer fails) last)) sound

pub returns-in_ok-push-in-Asking-clause-runs : goal.returns-in_ok-push-in-Asking-clause-runs
returns-in_ok-push-in-Asking-clause-runs g c d b e but =
    subst AreRunning (sym c.set_row.ensures.rows) (running_set (rows_of c.args.self.now) (c.args.line - 1) c.in_ok-ended-in-Asking.ended.row (row_within (rows_of c.args.self.now) c.args.line c.requires.line) but
    (settled_runs c.in-Asking.client c.in_ok-ended-in-Asking.ended.row (ask_settles c.in-Asking.client c.in-Asking.begins c.in_ok-ended-in-Asking.ended.outcome (stand_of c.in_ok-ended-in-Asking.ended.row) c.in_ok-ended-in-Asking.ensures.ends)))

pub returns-in_default-clause-waits : goal.returns-in_default-clause-waits
returns-in_default-clause-waits g c new trace client rest fails last sound =
    quiet_goes _ trace c.args.self.now c.args.self.now client rest c.args.turn.now.posted.items c.args.turn.now.ended.items c.args.turn.now.ended.items sound (no_more _ (posting_in c.args.turn.now.posted.items trace) c.args.turn.now.ended.items) (λ n a x. x) (λ n. refl)

pub returns-in_default-clause-runs : goal.returns-in_default-clause-runs
returns-in_default-clause-runs g c d b e but =
    let r = asking_row c.row.result.now d b (ap stand_of c.row.ensures ∙ sym (stand_of_line (rows_of c.args.self.now) c.args.line c.requires.line.first) ∙ e) in
    absurd (c.in_default.not-Asking d b r.0 r.1)

pub returns-in_ok-push-in-Asking-clause-ends : goal.returns-in_ok-push-in-Asking-clause-ends
returns-in_ok-push-in-Asking-clause-ends g c = (ends_so c.args.line c.in_ok-ended-in-Asking.ended.outcome, c.in_ok-push-in-Asking.ensures.items, alone_so c.args.line c.in_ok-ended-in-Asking.ended.outcome)

pub returns-in_default-clause-ends : goal.returns-in_default-clause-ends
returns-in_default-clause-ends g c = ends_nothing c.args.line c.args.turn.now.ended.items

pub returns-in_ok-push-in-Asking-clause-leads : goal.returns-in_ok-push-in-Asking-clause-leads
returns-in_ok-push-in-Asking-clause-leads g c new =
    ask_ends _ c.args.self.now c.set_row.new.self c.args.line c.in-Asking.client c.in-Asking.begins c.in-Asking.call c.in_ok-ended-in-Asking.ended.row c.in_ok-ended-in-Asking.ended.outcome c.args.answer c.args.turn.now.posted.items c.args.turn.now.ended.items c.push.new.self.items
    c.requires.line (sym c.row.ensures ∙ c.in-Asking.is) c.set_row.ensures.rows c.set_row.ensures.nexts c.set_row.ensures.asks c.set_row.ensures.clients c.in_ok-ended-in-Asking.ensures.leaves c.in_ok-push-in-Asking.ensures.items new

pub returns-in_default-clause-leads : goal.returns-in_default-clause-leads
returns-in_default-clause-leads g c new askers rest h came arisen = leads_nothing _ askers rest c.args.turn.now.posted.items c.args.turn.now.ended.items (heard_by c.args.self.now) c.args.self.now h arisen
