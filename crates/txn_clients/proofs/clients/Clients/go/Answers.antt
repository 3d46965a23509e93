use Rattle.std.proofs.Common.{◌≡◌, subst, suc, sym, ◌∙◌, ap, Some}
use Rattle.std.specs.Prelude.{OnOk}
use Rattle.txn_side.specs.Sight.{EndsAlone, NoneGiven, client_at, stand_at}
use Rattle.txn_clients.specs.Clients.{HearsFor, row_at, rows_of, stands_of}
use Rattle.txn_clients.specs.Going.{NamesIn, OfLine}
use Rattle.txn_clients.specs.Rows.{IsStamped, IsToldIn, Rests, Tells, stand_of}
use Rattle.txn_clients.proofs.Listening.{may_end}
use Rattle.txn_clients.proofs.Naming.{names_after, names_before, names_quiet, names_weaker}
use Rattle.txn_clients.proofs.Telling.{ends_within, on_ok, some_at, some_so}
use Rattle.txn_side.specs.Account.{AreKept}
use Rattle.txn_clients.specs.Accounts.{AccountsTold, account_at}
use Rattle.txn_clients.specs.Closing.{EndsCall, EndsOwn, HasComeTo}
use Rattle.txn_clients.proofs.Accounting.{both_on_ok, closes_so, goes_asked, goes_called, goes_none, kept_then, row_same, told_then}
use Rattle.txn_clients.specs.Waiting.{AreRunningBut, IsAnswerOf, IsNewAnswer}
use Rattle.txn_clients.proofs.Settling.{asked_at, asked_rests, called_at, called_rests, goes_on}
use Rattle.txn_clients.specs.Failing.{IfFails, IsToldLast, outbox_of, posting_in}
use Rattle.txn_clients.proofs.Showing.{says_last}
use Rattle.txn_clients.proofs.Voices.{hears_voice}
use Rattle.txn_clients.proofs.ToldParts.{asked_leads, called_leads, pushed_leads}
use Rattle.txn_clients.proofs.clients.Clients.go.Goals as goal

pub end_call-requires-clause-may : goal.end_call-requires-clause-may
end_call-requires-clause-may g c =
    may_end (rows_of c.push.new.self) c.args.line c.args.listener.at (stand_at (stands_of (rows_of c.push.new.self)) c.args.line)
    (subst (λ ss. HearsFor ss c.args.line c.args.listener.at (stand_at ss c.args.line)) (sym c.in_ok-push.ensures.stands) c.requires.listens.hears)
    (some_so c.in_ok-push.field-0 c.in-Some-Called.field-0 (Rests (row_at (rows_of c.push.new.self) c.args.listener.at)) c.in-Some-Called.is c.in_ok-push.ensures.rests)

pub returns-in-Some-Asked-clause-alone : goal.returns-in-Some-Asked-clause-alone
returns-in-Some-Asked-clause-alone g c =
    subst (λ ended. OnOk c.end_ask.result (EndsAlone c.args.line ended.items → EndsAlone c.args.line c.end_ask.new.turn.ended.items)) c.in_ok-push.ensures.ended c.end_ask.ensures.alone

pub returns-clause-alone : goal.returns-clause-alone
returns-clause-alone g c = on_ok c.start_job.result
    (λ (same : c.start_job.new.turn.ended ≡ c.end_call.new.turn.ended).
    ends_within c.args.line c.args.turn.now c.push.new.turn c.end_call.new.turn c.start_job.new.turn c.in_ok-push.ensures.ended c.in_ok-end_call-in-Some-Called.ensures.alone same)
    c.start_job.ensures.ended

pub returns-in-None-clause-names : goal.returns-in-None-clause-names
returns-in-None-clause-names g c = names_quiet (OfLine c.args.line (Tells c.args.told)) c.args.turn.now c.push.new.turn c.in_ok-push.ensures.ended

pub returns-in-Some-Asked-clause-names : goal.returns-in-Some-Asked-clause-names
returns-in-Some-Asked-clause-names g c =
    let told = subst (IsToldIn c.args.told) c.in-Some-Asked.field-0-is (some_at c.in_ok-push.field-0 c.in-Some-Asked.field-0 (IsToldIn c.args.told) c.in-Some-Asked.is c.in_ok-push.ensures.stamped) in
    on_ok c.end_ask.result
    (λ (f : NamesIn (OfLine c.args.line (IsStamped c.in-Some-Asked.answer)) c.push.new.turn c.end_ask.new.turn).
    names_after (OfLine c.args.line (Tells c.args.told)) c.args.turn.now c.push.new.turn c.end_ask.new.turn c.in_ok-push.ensures.ended
    (names_weaker (OfLine c.args.line (IsStamped c.in-Some-Asked.answer)) (OfLine c.args.line (Tells c.args.told)) c.push.new.turn c.end_ask.new.turn (λ n v q. (q.0, told v q.1)) f))
    c.end_ask.ensures.names

pub returns-clause-names : goal.returns-clause-names
returns-clause-names g c = on_ok c.start_job.result
    (λ (same : c.start_job.new.turn.ended ≡ c.end_call.new.turn.ended).
    names_before (OfLine c.args.line (Tells c.args.told)) c.args.turn.now c.end_call.new.turn c.start_job.new.turn
    (names_after (OfLine c.args.line (Tells c.args.told)) c.args.turn.now c.push.new.turn c.end_call.new.turn c.in_ok-push.ensures.ended
    (names_weaker NoneGiven (OfLine c.args.line (Tells c.args.told)) c.push.new.turn c.end_call.new.turn (λ n v q. absurd q) c.in_ok-end_call-in-Some-Called.ensures.names))
    same)
    c.start_job.ensures.ended

pub returns-in-None-clause-accounts : goal.returns-in-None-clause-accounts
returns-in-None-clause-accounts g c =
    goes_none c.args.told c.args.line c.args.listener.at (stand_at (stands_of (rows_of c.args.self.now)) c.args.line) (rows_of c.args.self.now) (rows_of c.push.new.self) c.args.turn.now.ended.items c.push.new.turn.ended.items c.in_ok-push.field-0
    c.in-None.is c.in_ok-push.ensures.accounts c.in_ok-push.ensures.answers (ap (λ v. v.items) c.in_ok-push.ensures.ended)

pub returns-in-Some-Asked-clause-accounts : goal.returns-in-Some-Asked-clause-accounts
returns-in-Some-Asked-clause-accounts g c = both_on_ok c.end_ask.result
    (λ (k : AreKept (account_at (rows_of c.push.new.self)) (account_at (rows_of c.end_ask.new.self))) ends.
    goes_asked c.args.told c.args.line c.args.listener.at (stand_at (stands_of (rows_of c.args.self.now)) c.args.line) (rows_of c.args.self.now) (rows_of c.end_ask.new.self) c.args.turn.now.ended.items c.end_ask.new.turn.ended.items c.in_ok-push.field-0 c.in-Some-Asked.answer
    (c.in-Some-Asked.is ∙ ap (λ x. Some x) c.in-Some-Asked.field-0-is)
    (told_then c.args.told c.args.listener.at c.in_ok-push.field-0 (rows_of c.args.self.now) (rows_of c.push.new.self) (rows_of c.end_ask.new.self) c.in_ok-push.ensures.accounts k) c.in_ok-push.ensures.answers c.in_ok-push.ensures.kind
    (subst (λ v. EndsOwn c.args.line v.items c.end_ask.new.turn.ended.items) c.in_ok-push.ensures.ended ends))
    c.end_ask.ensures.accounts c.end_ask.ensures.ends

pub returns-clause-accounts : goal.returns-clause-accounts
returns-clause-accounts g c =
    let old = rows_of c.args.self.now in
    let mid = rows_of c.push.new.self in
    let new = rows_of c.start_job.new.self in
    let at = c.args.listener.at in
    let stand = stand_at (stands_of old) c.args.line in
    let some = c.in-Some-Called.is ∙ ap (λ x. Some x) c.in-Some-Called.field-0-is in
    both_on_ok c.start_job.result
    (λ (k : AreKept (account_at (rows_of c.end_call.new.self)) (account_at new)) (same : c.start_job.new.turn.ended ≡ c.end_call.new.turn.ended).
    let kept = kept_then (account_at mid) (account_at (rows_of c.end_call.new.self)) (account_at new) c.in_ok-end_call-in-Some-Called.ensures.accounts k in
    let told = told_then c.args.told at c.in_ok-push.field-0 old mid new c.in_ok-push.ensures.accounts kept in
    let called = subst (λ o. AccountsTold c.args.told at o old new) some told in
    goes_called c.args.told c.args.line at stand old new c.args.turn.now.ended.items c.start_job.new.turn.ended.items c.in_ok-push.field-0 c.in-Some-Called.answer some told c.in_ok-push.ensures.answers c.in_ok-push.ensures.kind
    (subst (λ v. EndsCall c.args.line stand c.in-Some-Called.answer c.args.turn.now.ended.items v.items) (sym same)
    (subst (λ v. EndsCall c.args.line stand c.in-Some-Called.answer v.items c.end_call.new.turn.ended.items) c.in_ok-push.ensures.ended
    (subst (λ ss. EndsCall c.args.line (stand_at ss c.args.line) c.in-Some-Called.answer c.push.new.turn.ended.items c.end_call.new.turn.ended.items) c.in_ok-push.ensures.stands c.in_ok-end_call-in-Some-Called.ensures.ends)))
    (closes_so c.args.told stand c.in-Some-Called.answer (row_at old at) (row_at mid at) (account_at new (suc at)) (row_same old mid at c.in_ok-push.ensures.stands) (sym (kept (suc at))) called.own
    (λ heard. subst (λ ss. HasComeTo (stand_at ss c.args.line) c.in-Some-Called.answer (row_at mid at)) c.in_ok-push.ensures.stands (c.in_ok-come_to-in-Some-Called.ensures (c.is_heard-heard.ensures ∙ heard)))))
    c.start_job.ensures.accounts c.start_job.ensures.ended

pub returns-in-None-clause-waits : goal.returns-in-None-clause-waits
returns-in-None-clause-waits g c trace rest own knows sound =
    let pushed = c.in_ok-push.ensures.waits trace rest (record { own = own; voiced = hears_voice (stands_of (rows_of c.args.self.now)) c.args.line c.args.listener.at c.requires.listens.hears }) knows sound in
    pushed.0

pub returns-in-None-clause-runs : goal.returns-in-None-clause-runs
returns-in-None-clause-runs g c but prepared = let r = c.in_ok-push.ensures.runs but prepared in r.1 c.in-None.is

pub returns-in-Some-Asked-clause-waits : goal.returns-in-Some-Asked-clause-waits
returns-in-Some-Asked-clause-waits g c = on_ok c.end_ask.result
    (λ f trace rest own knows sound.
    let pushed = c.in_ok-push.ensures.waits trace rest (record { own = own; voiced = hears_voice (stands_of (rows_of c.args.self.now)) c.args.line c.args.listener.at c.requires.listens.hears }) knows sound in
    let new = some_at c.in_ok-push.field-0 c.in-Some-Asked.field-0 IsNewAnswer c.in-Some-Asked.is c.in_ok-push.ensures.new in
    let kind = subst (IsAnswerOf (stand_of (row_at (rows_of c.args.self.now) c.args.listener.at))) c.in-Some-Asked.field-0-is (some_at c.in_ok-push.field-0 c.in-Some-Asked.field-0 (IsAnswerOf (stand_of (row_at (rows_of c.args.self.now) c.args.listener.at))) c.in-Some-Asked.is c.in_ok-push.ensures.kind) in
    let why = asked_rests _ (posting_in c.push.new.turn.posted.items trace) (rows_of c.args.self.now) c.args.line c.args.listener.at c.in-Some-Asked.answer c.in_ok-push.field-0 c.requires.listens.hears kind (c.in-Some-Asked.is ∙ ap (λ x. Some x) c.in-Some-Asked.field-0-is) pushed.1 in
    let told = subst (λ u. IfFails (IsToldLast u) c.in-Some-Asked.answer) c.untimed-untimed.ensures c.in_ok-is_told_last-in-Some-Asked.ensures.ok in
    let last = says_last trace c.args.turn.now.posted.items c.push.new.turn.posted.items (outbox_of c.args.line) c.args.told (row_at (rows_of c.args.self.now) c.args.listener.at) c.in-Some-Asked.answer knows pushed.0.posted told in
    goes_on _ trace c.args.self.now c.push.new.self c.end_ask.new.self c.args.listener.client _ _ rest rest c.args.turn.now.posted.items c.push.new.turn.posted.items c.end_ask.new.turn.posted.items c.args.turn.now.ended.items c.push.new.turn.ended.items c.end_ask.new.turn.ended.items pushed.0
    (f (subst IsNewAnswer c.in-Some-Asked.field-0-is new) trace c.args.listener.client rest why last pushed.0.sound))
    c.end_ask.ensures.waits

pub returns-in-Some-Asked-clause-runs : goal.returns-in-Some-Asked-clause-runs
returns-in-Some-Asked-clause-runs g c = on_ok c.end_ask.result
    (λ f but prepared.
    let kind = subst (IsAnswerOf (stand_of (row_at (rows_of c.args.self.now) c.args.listener.at))) c.in-Some-Asked.field-0-is (some_at c.in_ok-push.field-0 c.in-Some-Asked.field-0 (IsAnswerOf (stand_of (row_at (rows_of c.args.self.now) c.args.listener.at))) c.in-Some-Asked.is c.in_ok-push.ensures.kind) in
    let at = asked_at (rows_of c.args.self.now) c.args.line c.args.listener.at c.in-Some-Asked.answer c.requires.listens.hears kind in
    let r = c.in_ok-push.ensures.runs but prepared in
    f at.c at.b (ap (λ ss. stand_at ss c.args.line) c.in_ok-push.ensures.stands ∙ at.stand) (subst (λ i. AreRunningBut i (rows_of c.push.new.self)) at.place r.0))
    c.end_ask.ensures.runs

pub returns-clause-waits : goal.returns-clause-waits
returns-clause-waits g c = on_ok c.start_job.result
    (λ f trace rest own knows sound.
    let pushed = c.in_ok-push.ensures.waits trace rest (record { own = own; voiced = hears_voice (stands_of (rows_of c.args.self.now)) c.args.line c.args.listener.at c.requires.listens.hears }) knows sound in
    let first = pushed.0 in
    let why = called_rests _ (posting_in c.push.new.turn.posted.items trace) (rows_of c.args.self.now) (rows_of c.push.new.self) c.args.line c.args.listener.at c.in-Some-Called.answer c.in_ok-push.field-0 c.in_ok-push.ensures.stands c.requires.listens.hears (c.in-Some-Called.is ∙ ap (λ x. Some x) c.in-Some-Called.field-0-is) pushed.1 in
    let told = subst (λ u. IfFails (IsToldLast u) c.in-Some-Called.answer) c.untimed-untimed.ensures c.in_ok-is_told_last-in-Some-Called.ensures.ok in
    let last = says_last trace c.args.turn.now.posted.items c.push.new.turn.posted.items (outbox_of c.args.line) c.args.told (row_at (rows_of c.args.self.now) c.args.listener.at) c.in-Some-Called.answer knows first.posted told in
    let ended = c.in_ok-end_call-in-Some-Called.ensures.waits trace c.args.listener.client rest why last first.sound in
    let mine = c.in_ok-end_call-in-Some-Called.ensures.clients c.args.listener.client (ap (λ ss. client_at (stand_at ss c.args.line)) c.in_ok-push.ensures.stands ∙ own) in
    goes_on _ trace c.args.self.now c.push.new.self c.start_job.new.self c.args.listener.client _ _ rest rest c.args.turn.now.posted.items c.push.new.turn.posted.items c.start_job.new.turn.posted.items c.args.turn.now.ended.items c.push.new.turn.ended.items c.start_job.new.turn.ended.items first
    (goes_on _ trace c.push.new.self c.end_call.new.self c.start_job.new.self c.args.listener.client _ _ rest rest c.push.new.turn.posted.items c.end_call.new.turn.posted.items c.start_job.new.turn.posted.items c.push.new.turn.ended.items c.end_call.new.turn.ended.items c.start_job.new.turn.ended.items ended (f trace rest mine ended.sound)))
    c.start_job.ensures.waits

pub returns-clause-runs : goal.returns-clause-runs
returns-clause-runs g c = on_ok c.start_job.result
    (λ f but prepared.
    let kind = subst (IsAnswerOf (stand_of (row_at (rows_of c.args.self.now) c.args.listener.at))) c.in-Some-Called.field-0-is (some_at c.in_ok-push.field-0 c.in-Some-Called.field-0 (IsAnswerOf (stand_of (row_at (rows_of c.args.self.now) c.args.listener.at))) c.in-Some-Called.is c.in_ok-push.ensures.kind) in
    let at = called_at (rows_of c.args.self.now) c.args.line c.args.listener.at c.in-Some-Called.answer c.requires.listens.hears kind in
    let r = c.in_ok-push.ensures.runs but prepared in
    f (c.in_ok-end_call-in-Some-Called.ensures.runs at.c at.x at.b (ap (λ ss. stand_at ss c.args.line) c.in_ok-push.ensures.stands ∙ at.stand) (subst (λ i. AreRunningBut i (rows_of c.push.new.self)) at.place r.0)))
    c.start_job.ensures.runs

pub returns-in-None-clause-leads : goal.returns-in-None-clause-leads
returns-in-None-clause-leads g c = pushed_leads _ c.args.told c.args.line c.args.listener.at c.args.listener.client c.in_ok-push.field-0 c.args.self.now c.push.new.self _ _ _ _ c.requires.listens.hears c.in_ok-push.ensures.leads

pub returns-in-Some-Asked-clause-leads : goal.returns-in-Some-Asked-clause-leads
returns-in-Some-Asked-clause-leads g c = on_ok c.end_ask.result
    (λ f. let new = some_at c.in_ok-push.field-0 c.in-Some-Asked.field-0 IsNewAnswer c.in-Some-Asked.is c.in_ok-push.ensures.new in
    asked_leads _ c.args.told c.args.line c.args.listener.at c.args.listener.client c.in_ok-push.field-0 c.in-Some-Asked.answer c.args.self.now c.push.new.self c.end_ask.new.self _ _ _ _ _ _ c.requires.listens.hears c.in_ok-push.ensures.stands
    (c.in-Some-Asked.is ∙ ap (λ x. Some x) c.in-Some-Asked.field-0-is) c.in_ok-push.ensures.leads (f (subst IsNewAnswer c.in-Some-Asked.field-0-is new)))
    c.end_ask.ensures.leads

pub returns-clause-leads : goal.returns-clause-leads
returns-clause-leads g c = both_on_ok c.start_job.result
    (λ job (same : c.start_job.new.turn.ended ≡ c.end_call.new.turn.ended).
    called_leads _ c.args.told c.args.line c.args.listener.at c.args.listener.client c.in_ok-push.field-0 c.in-Some-Called.answer c.args.self.now c.push.new.self c.end_call.new.self c.start_job.new.self _ _ _ _ _ _ _ _ c.requires.listens.hears c.in_ok-push.ensures.stands
    (c.in-Some-Called.is ∙ ap (λ x. Some x) c.in-Some-Called.field-0-is) c.in_ok-push.ensures.leads c.in_ok-end_call-in-Some-Called.ensures.leads c.in_ok-end_call-in-Some-Called.ensures.clients job (ap (λ v. v.items) same)
    (λ heard. c.in_ok-come_to-in-Some-Called.ensures (c.is_heard-heard.ensures ∙ heard)))
    c.start_job.ensures.leads c.start_job.ensures.ended
