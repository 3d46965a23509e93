-- What has come, as a trace has it.
use Rattle.std.proofs.Common.{◌≡◌, ◌+◌, arith, ℕ, suc, Bool, true, false, if◌then◌else◌, List, [], ◌∷◌, ◌++◌, length, nat_eq, refl, get_or, Option, Some, None, sym, ap, ◌∙◌, subst}
use Rattle.txn_history.specs.Event.{Event, Has}
use Rattle.txn_history.specs.Event.Event.{Lost, Took}
use Rattle.txn_history.specs.Posted.{ticket_of}
use Rattle.txn_kv.specs.declared.errors.Error.{Error}
use Rattle.txn_kv.specs.declared.reply.Reply.{Reply}
use Rattle.txn_kv.specs.declared.request.Request.{Request}
use Rattle.txn_kv.specs.declared.request.Request.TheVariants.{Tso}
use Rattle.txn_kv.specs.declared.ticket.Ticket.{Ticket}
use Rattle.txn_kv.specs.declared.arrival.Arrival.TheVariants as arrivals
use Rattle.txn_side.specs.Sight.{Group}
use Rattle.txn_side.specs.Trace.{GroupCame, HasCome, HasRefused, HasRefusedBeside, IsLonger, IsSentIn, Trace, refused_as, times_in, with_posted}
use Rattle.txn_kv.specs.declared.request.cluster.TsoRequest.{TsoRequest}
use Rattle.txn_tso.specs.Oracle.{group_or_none}
use Rattle.txn_side.specs.declared.turn.Posting.{Posting}
use Rattle.txn_clients.specs.Clients.{groups_of, sight_of}
use Rattle.txn_side.specs.Account.{Account, refusal}
use Rattle.txn_lines.specs.declared.act.Act.{Act}
use Rattle.txn_lines.specs.declared.act.Act.TheVariants.{Rollback}
use Rattle.txn_clients.specs.Failing.{CalledIn, CameIn, GroupCameIn, KnowsAsk, RefusedIn, RollsBackIn, outbox_of, posting_in, refused_out}
use Rattle.txn_clients.specs.Groups.{group_by, lines_in}
use Rattle.txn_clients.specs.Waiting.{book_at, WantedIn}
use Rattle.txn_clients.specs.declared.clients.Clients.{Clients}
use Rattle.txn_clients.proofs.Stepping.{group_there}
use Rattle.txn_clients.specs.Rows.{Pd}
use Rattle.txn_client.specs.declared.client_call.ClientCall.{ClientCall}

-- whatever was posted since

pub called_since : (trace : Option Trace) (ps : List Posting) (line at : ℕ) → CalledIn trace line at → CalledIn (posting_in ps trace) line at
called_since None ps line at c = tt
called_since (Some t) ps line at c = c

pub wanted_since : {P : Type 0} (trace : Option Trace) (ps : List Posting) (at : ℕ) (call : ClientCall Pd P) → WantedIn trace at call → WantedIn (posting_in ps trace) at call
wanted_since None ps at call wants = wants
wanted_since (Some t) ps at call wants = wants

-- without a trace nothing is asked of it
pub rolls_untold : (line : ℕ) (act : Act) → RollsBackIn None line act
rolls_untold line Rollback = tt
rolls_untold line _ = tt

rolls_since : (trace : Option Trace) (ps : List Posting) (line : ℕ) (act : Act) → RollsBackIn trace line act → RollsBackIn (posting_in ps trace) line act
rolls_since None ps line Rollback r = tt
rolls_since None ps line _ r = tt
rolls_since (Some t) ps line Rollback r = r
rolls_since (Some t) ps line _ r = tt

refused_since : (trace : Option Trace) (ps : List Posting) (line : ℕ) (why : Option Error) → RefusedIn trace line why → RefusedIn (posting_in ps trace) line why
refused_since None ps line why r = tt
refused_since (Some t) ps line why r = r

pub asked_since : (trace : Option Trace) (ps : List Posting) (line : ℕ) (act : Act) (account : Account) → KnowsAsk trace line act account → KnowsAsk (posting_in ps trace) line act account
asked_since trace ps line act account k = (refused_since trace ps line (refusal act account) k.0, rolls_since trace ps line act k.1)

-- for the request for timestamps of a client

group_ticket : (ticket : Option Ticket) (lines : List ℕ) (g : Group) (v : Ticket) → ticket ≡ Some v → group_by ticket lines ≡ Some g → g.ticket ≡ v
group_ticket None lines g v f h = absurd (cc)
group_ticket (Some x) lines g v f h = ap (λ (y : Group). y.ticket) (sym one) ∙ two
  where
    one : record { ticket = x; askers = lines } ≡ g
    one = cc

    two : x ≡ v
    two = cc

pub group_came : {P : Type 0} (before t : Trace) (s : Clients P) (client : ℕ) (u : Ticket) (event : Ticket → Request → Event) → (book_at s client).ticket ≡ Some u → HasCome before t (sight_of s) u (event u) → GroupCameIn (Some t) (get_or (groups_of s) client None) event
group_came before t s client u event e came group out =
    let same = group_ticket (book_at s client).ticket _ group u e (sym (group_there s.clients.items client) ∙ out) in
    let fact = came.group group (client, out) same in
    (fact.among, (fact.request, subst (λ v. Has t.events (event v (Tso fact.request))) (sym same) fact.come), came.now ∙ ap (λ v. Some v) (sym same))

-- how often a line is told of it
times_both : (lines more : List ℕ) (n : ℕ) → times_in (lines ++ more) n ≡ times_in lines n + times_in more n
times_both [] more n = omega arith
times_both (line ∷ lines) more n = by (nat_eq line n) (times_both lines more n)
  where
    by : (b : Bool) → times_in (lines ++ more) n ≡ times_in lines n + times_in more n
        → (if b then suc (times_in (lines ++ more) n) else times_in (lines ++ more) n) ≡ (if b then suc (times_in lines n) else times_in lines n) + times_in more n
    by true e = omega (arith, e)
    by false e = e

-- by so many more were refused as are to be told that now
pub group_longer : {P : Type 0} (before t : Trace) (s : Clients P) (client : ℕ) (u : Ticket) (event : Ticket → Request → Event) → ((v : Ticket) (q r : TsoRequest) (lines : List ℕ) → refused_as (event v (Tso q)) lines ≡ refused_as (event v (Tso r)) lines)
    → (book_at s client).ticket ≡ Some u → IsLonger before t → HasCome before t (sight_of s) u (event u) → IsLonger before (record t { owed = refused_out event (get_or (groups_of s) client None) ++ t.owed })
group_longer before t s client u event plain ticket l came = record {
  events = l.events;
  calls = l.calls;
  begun = l.begun;
  rollbacks = l.rollbacks;
  groups = l.groups;
  sent = l.sent;
  refused = l.refused;
  beside = λ line n h. more line n h;
}
  where
    lines : List ℕ
    lines = lines_in (group_or_none (book_at s client).out)

    there : get_or (groups_of s) client None ≡ Some (record { ticket = u; askers = lines })
    there = group_there s.clients.items client ∙ ap (λ x. group_by x lines) ticket

    fact : GroupCame before t (record { ticket = u; askers = lines }) (event u)
    fact = came.group (record { ticket = u; askers = lines }) (client, there) refl

    out : refused_out event (get_or (groups_of s) client None) ≡ refused_as (event u (Tso fact.request)) lines
    out = ap (refused_out event) there ∙ plain u (record { count = length lines }) fact.request lines

    more : (line n : ℕ) → HasRefusedBeside before line n → HasRefused t line (n + times_in (refused_out event (get_or (groups_of s) client None) ++ t.owed) line)
    more line n h =
        let told : times_in t.owed line ≡ 0 = ap (λ xs. times_in xs line) came.told in
        let sum = times_both (refused_out event (get_or (groups_of s) client None)) t.owed line in
        let same : times_in (refused_out event (get_or (groups_of s) client None)) line ≡ times_in (refused_as (event u (Tso fact.request)) lines) line = ap (λ xs. times_in xs line) out in
        let k = fact.more line (n + times_in before.owed line) h in
        (k.0, (let enough = k.1 in omega (arith, enough, told, sum, same)), k.2)

-- for another ticket

ticket_plain : (u : Ticket) → u.beat ≡ false → ticket_of (outbox_of u.line) u.number ≡ u
ticket_plain u e = λ i. record { line = u.line; beat = sym e i; number = u.number }

came_as : (t : Trace) (u : Ticket) (event : Ticket → Request → Event) (r : Request) → u.beat ≡ false → t.posted ≡ [] → (IsSentIn t u r → Has t.events (event u r)) → IsSentIn (with_posted [] t) (ticket_of (outbox_of u.line) u.number) r → Has t.events (event (ticket_of (outbox_of u.line) u.number) r)
came_as t u event r beat none own sent =
    subst (λ v. Has t.events (event v r)) (sym (ticket_plain u beat)) (own (subst (λ v. IsSentIn t v r) (ticket_plain u beat) (subst (λ ps. IsSentIn (with_posted ps t) (ticket_of (outbox_of u.line) u.number) r) (sym none) sent)))

pub reply_came : {P : Type 0} (before t : Trace) (s : Clients P) (u : Ticket) (o : Reply) → u.beat ≡ false → t.posted ≡ [] → HasCome before t (sight_of s) u (λ r. Took u r o) → CameIn (posting_in [] (Some t)) (outbox_of u.line) (arrivals.Reply u.number o)
reply_came before t s u o beat none came = λ r sent. came_as t u (λ v q. Took v q o) r beat none (came.own r) sent

pub loss_came : {P : Type 0} (before t : Trace) (s : Clients P) (u : Ticket) → u.beat ≡ false → t.posted ≡ [] → HasCome before t (sight_of s) u (λ r. Lost u r) → CameIn (posting_in [] (Some t)) (outbox_of u.line) (arrivals.Lost u.number)
loss_came before t s u beat none came = λ r sent. came_as t u (λ v q. Lost v q) r beat none (came.own r) sent
