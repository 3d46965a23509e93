use Rattle.std.proofs.Common.{◌∙◌, ◌-◌, ap, refl, set, subst, sym, []}
use Rattle.txn_side.specs.Sight.{NoneGiven, commits, line_count, with_stand}
use Rattle.txn_side.specs.Sight.Stand.{Calling, HasBegun}
use Rattle.txn_clients.specs.Clients.{rows_of, sight_of}
use Rattle.txn_clients.specs.declared.row.Row.TheVariants as row
use Rattle.txn_clients.specs.Going.{OfLine}
use Rattle.txn_clients.specs.Rows.{Tells}
use Rattle.txn_clients.specs.declared.told.Told.TheVariants as tells
use Rattle.txn_clients.proofs.Asking.{act_hears, called_listens_now, called_sight, calling_ready, newest_idle, newest_is, turn_from, called_stand}
use Rattle.txn_clients.proofs.Naming.{named_so}
use Rattle.txn_clients.proofs.Accounting.{takes_in}
use Rattle.txn_clients.proofs.Beginning.{call_steps}
use Rattle.std.proofs.lemmas.Result.{IfOk-weaker}
use Rattle.txn_clients.specs.Accounts.{account_at}
use Rattle.txn_clients.specs.Failing.{CalledIn, KnowsAsk}
use Rattle.txn_clients.proofs.Coming.{called_since, asked_since}
use Rattle.txn_clients.proofs.Timestamps.{both_if_ok}
use Rattle.txn_clients.proofs.Stepped.{call_leads}
use Rattle.txn_clients.proofs.clients.Clients.call_transaction.Goals as goal

pub step-requires-clause-listens : goal.step-requires-clause-listens
step-requires-clause-listens g c = called_listens_now c.args.self.now c.set_row.new.self c.newest-line.result c.args.transaction c.args.client c.is_commit.result (newest_is c.args.self.now c.newest-line.result c.requires.line c.newest-line.ensures)
    (newest_idle c.args.self.now c.newest-line.result c.newest-line.ensures (c.if-not-is_new.ensures refl)) c.requires.transaction c.requires.client
    (called_sight c.args.self.now c.set_row.new.self c.newest-line.result c.args.transaction c.args.client c.is_commit.result c.requires.transaction (c.set_row.ensures.rows ∙ ap (λ rs. set rs (c.newest-line.result - 1) (row.Calling c.args.client c.args.transaction c.is_commit.result)) c.set_waits.ensures.rows) (c.set_row.ensures.nexts ∙ c.set_waits.ensures.nexts) (c.set_row.ensures.clients ∙ c.set_waits.ensures.clients))

pub step-requires-clause-ready : goal.step-requires-clause-ready
step-requires-clause-ready g c = calling_ready _ (rows_of c.args.self.now) (rows_of c.set_row.new.self) c.newest-line.result c.args.transaction c.args.client c.is_commit.result (newest_is c.args.self.now c.newest-line.result c.requires.line c.newest-line.ensures)
    (newest_idle c.args.self.now c.newest-line.result c.newest-line.ensures (c.if-not-is_new.ensures refl)) c.requires.transaction c.requires.ready (c.set_row.ensures.rows ∙ ap (λ rs. set rs (c.newest-line.result - 1) (row.Calling c.args.client c.args.transaction c.is_commit.result)) c.set_waits.ensures.rows)

pub step-requires-clause-hears : goal.step-requires-clause-hears
step-requires-clause-hears g c = act_hears _ (rows_of c.args.self.now) (rows_of c.set_row.new.self) c.newest-line.result c.args.transaction c.args.client c.is_commit.result c.args.act (newest_is c.args.self.now c.newest-line.result c.requires.line c.newest-line.ensures)
    (newest_idle c.args.self.now c.newest-line.result c.newest-line.ensures (c.if-not-is_new.ensures refl)) c.requires.transaction c.requires.ready (c.set_row.ensures.rows ∙ ap (λ rs. set rs (c.newest-line.result - 1) (row.Calling c.args.client c.args.transaction c.is_commit.result)) c.set_waits.ensures.rows)

pub returns-clause-turn : goal.returns-clause-turn
returns-clause-turn g c =
    turn_from c.step.result (sight_of c.set_row.new.self)
    (with_stand (line_count (sight_of c.args.self.now)) (Calling c.args.client c.args.transaction (commits c.args.act)) (with_stand c.args.transaction (HasBegun c.args.client (line_count (sight_of c.args.self.now))) (sight_of c.args.self.now)))
    (sight_of c.step.new.self)
    ((called_sight c.args.self.now c.set_row.new.self c.newest-line.result c.args.transaction c.args.client c.is_commit.result c.requires.transaction (c.set_row.ensures.rows ∙ ap (λ rs. set rs (c.newest-line.result - 1) (row.Calling c.args.client c.args.transaction c.is_commit.result)) c.set_waits.ensures.rows) (c.set_row.ensures.nexts ∙ c.set_waits.ensures.nexts) (c.set_row.ensures.clients ∙ c.set_waits.ensures.clients))
    ∙ ap (λ b. with_stand c.newest-line.result (Calling c.args.client c.args.transaction b) (with_stand c.args.transaction (HasBegun c.args.client c.newest-line.result) (sight_of c.args.self.now))) c.is_commit.ensures
    ∙ ap (λ n. with_stand n (Calling c.args.client c.args.transaction (commits c.args.act)) (with_stand c.args.transaction (HasBegun c.args.client n) (sight_of c.args.self.now))) c.newest-line.ensures)
    c.step.ensures.turn

pub returns-clause-names : goal.returns-clause-names
returns-clause-names g c = named_so c.step.result (OfLine c.newest-line.result (Tells (tells.Act c.args.act))) NoneGiven (λ n v q. q.1) c.step.ensures.names

pub returns-clause-takes : goal.returns-clause-takes
returns-clause-takes g c =
    let old = rows_of c.args.self.now in
    let mid = rows_of c.set_row.new.self in
    let new = rows_of c.step.new.self in
    let is = newest_is c.args.self.now c.newest-line.result c.requires.line c.newest-line.ensures in
    let idle = newest_idle c.args.self.now c.newest-line.result c.newest-line.ensures (c.if-not-is_new.ensures refl) in
    let rows = c.set_row.ensures.rows ∙ ap (λ rs. set rs (c.newest-line.result - 1) (row.Calling c.args.client c.args.transaction c.is_commit.result)) c.set_waits.ensures.rows in
    IfOk-weaker c.step.result _ _
    (λ turn told. takes_in old mid c.newest-line.result c.args.transaction c.args.client c.is_commit.result is idle c.requires.transaction rows new c.args.act (line_count (sight_of c.args.self.now)) turn.ended.items c.newest-line.ensures c.is_commit.ensures
    (called_stand old mid c.newest-line.result c.args.transaction c.args.client c.is_commit.result is rows) told)
    c.step.ensures.accounts

pub returns-clause-steps : goal.returns-clause-steps
returns-clause-steps g c = IfOk-weaker c.step.result _ _
    (λ turn f trace ready called refused sound. call_steps _ g.met.P.Plans.lawful trace c.args.self.now c.set_row.new.self c.step.new.self c.newest-line.result c.args.transaction c.args.client c.is_commit.result c.args.act _ turn.posted.items turn.ended.items (newest_is c.args.self.now c.newest-line.result c.requires.line c.newest-line.ensures)
    (newest_idle c.args.self.now c.newest-line.result c.newest-line.ensures (c.if-not-is_new.ensures refl)) c.requires.transaction
    (c.set_row.ensures.rows ∙ ap (λ rs. set rs (c.newest-line.result - 1) (row.Calling c.args.client c.args.transaction c.is_commit.result)) c.set_waits.ensures.rows) (c.set_row.ensures.nexts ∙ c.set_waits.ensures.nexts) (c.set_row.ensures.asks ∙ c.set_waits.ensures.asks) (c.set_row.ensures.clients ∙ c.set_waits.ensures.clients) ready
    (called_since trace [] c.newest-line.result c.args.transaction (subst (λ n. CalledIn trace n c.args.transaction) (sym c.newest-line.ensures) called))
    (asked_since trace [] c.newest-line.result c.args.act (account_at (rows_of c.args.self.now) c.args.transaction) (subst (λ n. KnowsAsk trace n c.args.act (account_at (rows_of c.args.self.now) c.args.transaction)) (sym c.newest-line.ensures) refused)) sound (f trace))
    c.step.ensures.steps

pub returns-clause-leads : goal.returns-clause-leads
returns-clause-leads g c = both_if_ok c.step.result _ _ _
    (λ turn alone f. call_leads _ c.args.self.now c.set_waits.new.self c.set_row.new.self c.step.new.self c.newest-line.result c.args.transaction c.args.client c.is_commit.result c.args.act turn.posted.items turn.ended.items (newest_is c.args.self.now c.newest-line.result c.requires.line c.newest-line.ensures)
    (newest_idle c.args.self.now c.newest-line.result c.newest-line.ensures (c.if-not-is_new.ensures refl)) c.requires.transaction c.requires.ready c.set_waits.ensures.rows c.set_waits.ensures.nexts c.set_waits.ensures.asks c.set_waits.ensures.clients
    c.set_row.ensures.rows c.set_row.ensures.nexts c.set_row.ensures.asks c.set_row.ensures.clients alone c.is_commit.ensures f)
    c.step.ensures.alone c.step.ensures.leads
