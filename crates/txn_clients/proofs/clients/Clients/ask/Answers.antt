use Rattle.std.proofs.Common.{◌∙◌, [], ap, refl, subst, ◌-◌, sym}
use Rattle.txn_side.specs.Sight.{NoneGiven, line_count, with_stand}
use Rattle.txn_side.specs.Sight.Stand.{Asking}
use Rattle.txn_clients.specs.Clients.{rows_of, sight_of}
use Rattle.txn_clients.specs.Going.{OfLine}
use Rattle.txn_clients.specs.Rows.{Tells}
use Rattle.txn_clients.specs.declared.told.Told.TheVariants as tells
use Rattle.txn_clients.proofs.Asking.{asked_listens_now, asked_sight, asking_ready, newest_idle, newest_is, turn_from}
use Rattle.txn_clients.proofs.Naming.{named_so}
use Rattle.txn_clients.specs.Accounts.{account_at}
use Rattle.txn_clients.specs.declared.row.Row.TheVariants as row
use Rattle.txn_clients.proofs.Accounting.{idle_line, if_on_ok, kept_at, kept_then, started_goes}
use Rattle.txn_clients.proofs.Beginning.{ask_steps}
use Rattle.std.proofs.lemmas.Result.{IfOk-weaker}
use Rattle.txn_clients.specs.Failing.{CalledIn}
use Rattle.txn_clients.proofs.Coming.{called_since, wanted_since}
use Rattle.txn_clients.specs.Waiting.{WantedIn}
use Rattle.txn_clients.proofs.Timestamps.{both_if_ok}
use Rattle.txn_clients.proofs.Stepped.{ask_leads}
use Rattle.txn_clients.proofs.clients.Clients.ask.Goals as goal

pub step-requires-clause-listens : goal.step-requires-clause-listens
step-requires-clause-listens g c = asked_listens_now c.args.self.now c.set_row.new.self c.newest-line.result c.args.client c.args.begins (newest_is c.args.self.now c.newest-line.result c.requires.line c.newest-line.ensures) c.requires.client
    (asked_sight c.args.self.now c.set_row.new.self c.newest-line.result c.args.client c.args.begins c.args.call c.set_row.ensures.rows c.set_row.ensures.nexts c.set_row.ensures.clients)

pub step-requires-clause-ready : goal.step-requires-clause-ready
step-requires-clause-ready g c = asking_ready _ (rows_of c.args.self.now) (rows_of c.set_row.new.self) c.newest-line.result c.args.client c.args.begins c.args.call (newest_is c.args.self.now c.newest-line.result c.requires.line c.newest-line.ensures)
    (newest_idle c.args.self.now c.newest-line.result c.newest-line.ensures (c.if-not-is_new.ensures refl)) c.requires.ready c.requires.call c.requires.wants c.set_row.ensures.rows

pub returns-clause-turn : goal.returns-clause-turn
returns-clause-turn g c =
    turn_from c.step.result (sight_of c.set_row.new.self) (with_stand (line_count (sight_of c.args.self.now)) (Asking c.args.client c.args.begins) (sight_of c.args.self.now)) (sight_of c.step.new.self)
    ((asked_sight c.args.self.now c.set_row.new.self c.newest-line.result c.args.client c.args.begins c.args.call c.set_row.ensures.rows c.set_row.ensures.nexts c.set_row.ensures.clients)
    ∙ ap (λ n. with_stand n (Asking c.args.client c.args.begins) (sight_of c.args.self.now)) c.newest-line.ensures)
    c.step.ensures.turn

pub returns-clause-names : goal.returns-clause-names
returns-clause-names g c = named_so c.step.result (OfLine c.newest-line.result (Tells tells.Start)) NoneGiven (λ n v q. q.1) c.step.ensures.names

pub returns-clause-accounts : goal.returns-clause-accounts
returns-clause-accounts g c =
    let old = rows_of c.args.self.now in
    let mid = rows_of c.set_row.new.self in
    let new = rows_of c.step.new.self in
    if_on_ok c.step.result _
    (λ turn h. kept_then (account_at old) (account_at mid) (account_at new)
    (kept_at old mid (c.newest-line.result - 1) (row.Asking c.args.client c.args.begins c.args.call) c.set_row.ensures.rows
    (sym (idle_line old c.newest-line.result (newest_is c.args.self.now c.newest-line.result c.requires.line c.newest-line.ensures) (newest_idle c.args.self.now c.newest-line.result c.newest-line.ensures (c.if-not-is_new.ensures refl)))))
    (started_goes c.newest-line.result (c.newest-line.result - 1) _ mid new [] turn.ended.items h))
    c.step.ensures.accounts

pub returns-clause-steps : goal.returns-clause-steps
returns-clause-steps g c = IfOk-weaker c.step.result _ _
    (λ turn f trace ready called wants sound. ask_steps _ g.met.P.Plans.lawful trace c.args.self.now c.set_row.new.self c.step.new.self c.newest-line.result c.args.client c.args.begins c.args.call _ turn.posted.items turn.ended.items (newest_is c.args.self.now c.newest-line.result c.requires.line c.newest-line.ensures)
    (newest_idle c.args.self.now c.newest-line.result c.newest-line.ensures (c.if-not-is_new.ensures refl)) c.requires.client c.requires.fresh c.requires.unbegun c.set_row.ensures.rows c.set_row.ensures.nexts c.set_row.ensures.asks c.set_row.ensures.clients ready
    (called_since trace [] c.newest-line.result c.newest-line.result (subst (λ n. CalledIn trace n n) (sym c.newest-line.ensures) called))
    (wanted_since trace [] c.newest-line.result c.args.call (subst (λ n. WantedIn trace n c.args.call) (sym c.newest-line.ensures) wants)) sound (f trace))
    c.step.ensures.steps

pub returns-clause-leads : goal.returns-clause-leads
returns-clause-leads g c = both_if_ok c.step.result _ _ _
    (λ turn alone f. ask_leads _ c.args.self.now c.set_row.new.self c.step.new.self c.newest-line.result c.args.client c.args.begins c.args.call turn.posted.items turn.ended.items (newest_is c.args.self.now c.newest-line.result c.requires.line c.newest-line.ensures)
    (newest_idle c.args.self.now c.newest-line.result c.newest-line.ensures (c.if-not-is_new.ensures refl)) c.requires.fresh c.set_row.ensures.rows c.set_row.ensures.nexts c.set_row.ensures.asks c.set_row.ensures.clients alone f)
    c.step.ensures.alone c.step.ensures.leads
