-- How many asks each step of a call makes, and how many it leaves.
use Rattle.std.proofs.Common.{◌≡◌, inl, inr, sym, subst, ℕ, ◌+◌, ◌≤◌, Bool, true, false, Option, Some, None, refl, ap, ◌∙◌, arith}
use Rattle.std.proofs.lemmas.Bool.{false≢true}
use Rattle.std.specs.Bool.{MatchBool}
use Rattle.std.specs.Prelude.{if◌then◌else◌, is_err, nat_eq, nat_lt, Result, Ok, Err}
use Rattle.txn_kv.specs.declared.errors.Error.{Error}
use Rattle.txn_kv.specs.declared.errors.Error.TheVariants.{GrpcAPI, InternalError}
use Rattle.txn_kv.specs.declared.errors.Internal.TheVariants.{WrongReply}
use Rattle.txn_kv.specs.declared.outbox.Errand.TheVariants.{Send, Sleep, Ask}
use Rattle.txn_kv.specs.declared.query.PdAnswer.{PdAnswer}
use Rattle.txn_kv.specs.declared.query.PdAnswer.TheVariants as answer
use Rattle.txn_kv.specs.declared.query.PdQuery.{PdQuery}
use Rattle.txn_kv.specs.declared.query.PdQuery.TheVariants.{Region, RegionId, Store, Stores, Time, Safepoint}
use Rattle.txn_kv.specs.declared.reply.Reply.{Reply}
use Rattle.txn_kv.specs.declared.request.Request.{Request}
use Rattle.txn_kv.specs.declared.ticket.Target.TheVariants.{Placement}
use Rattle.txn_kv.specs.declared.timestamp.Timestamp.{Timestamp}
use Rattle.txn_history.specs.Posted.{Posted, ticket_of}
use Rattle.txn_history.specs.Spends.{Spends, calls, sleeps, spare}
use Rattle.txn_history.specs.Turn.Turn.{Waits, Ends}
use Rattle.txn_history.proofs.Counting.{calls-more, sleeps-more, spare-le}
use Rattle.txn_tso.specs.Calling.{members}
use Rattle.txn_tso.specs.Counting.{asks_of, call_bears, call_left, call_round, is_loss, left_at, CallSpends}
use Rattle.txn_tso.specs.Placement.{may_connect, not_found, request_of, HasNoRegion}
use Rattle.txn_tso.specs.Steps.{connecting, ends, failing_try, losing_members, on_answer, on_loss, on_start, on_timestamp, on_waking, one_more_failed, over, reconnected, resting, standing, tried, tried_with, unconnected, waits, with_ask, with_request, with_sleep, IsMembersReply, IsOnReply, IsQueryReply, Standing, Stood}
use Rattle.txn_tso.specs.declared.pd_call.PdCall.{PdCall}
use Rattle.txn_tso.specs.declared.retry_client.RetryClient.{RetryClient}
use Rattle.txn_tso.specs.declared.stage.Stage.{Stage}
use Rattle.txn_tso.specs.declared.stage.Stage.TheVariants as stage
use Rattle.txn_tso.proofs.Moving.{failed_so_often, time_of_ask}

-- an event of the call, `bad` or not, that leads there
abbrev pub Paid : PdCall → Bool → Posted → Stood → Type 0
Paid s bad o st = CallSpends s st.at.call bad o st.at.out st.turn

-- one try more is left, or the event allows it
abbrev pub HasTry : PdCall → Bool → Type 0
HasTry s bad = asks_of s.query ≤ left_at s.query s.stage + spare bad false (asks_of s.query)

paid : (s t : PdCall) (bad : Bool) (o to : Posted) (kept failed : Bool)
    → (failed ≡ true → bad ≡ true)
    → calls to + left_at t.query t.stage ≤ calls o + left_at s.query s.stage + spare bad failed (asks_of s.query)
    → calls to ≤ calls o + left_at s.query s.stage + spare bad false (asks_of s.query)
    → sleeps to ≤ sleeps o + spare bad failed 1
    → sleeps to ≤ sleeps o + spare bad false 1
    → Spends (call_bears s) (call_bears t) (call_left s) (call_left t) (call_round s) bad bad 0 0 0 0 o to kept failed
paid s t bad o to kept failed f a b d e = record {
  wider = omega arith;
  bears = λ x w u. tt;
  allowed = λ x. f;
  spends = λ x n w u l v. let k = spare-le bad failed (asks_of s.query) (asks_of s.query + w + 0) (omega arith) in omega arith;
  stopped = λ n w u l v. let k = spare-le bad false (asks_of s.query) (asks_of s.query + w + 0) (omega arith) in omega arith;
  rests = λ x. omega arith;
  stopped_rests = omega arith;
}

-- the call waits, and has begun no sleep
paid_waits : (s t : PdCall) (bad : Bool) (o to : Posted) → calls to + left_at t.query t.stage ≤ calls o + left_at s.query s.stage + spare bad false (asks_of s.query) → sleeps to ≤ sleeps o
    → Spends (call_bears s) (call_bears t) (call_left s) (call_left t) (call_round s) bad bad 0 0 0 0 o to true false
paid_waits s t bad o to a b = paid s t bad o to true false (λ e. absurd (false≢true e)) a (omega arith) (omega arith) (omega arith)

tried_with_paid : (s : PdCall) (n : ℕ) (c : RetryClient) (o : Posted) (bad : Bool) (r : Option Request) → request_of s.query ≡ r → HasTry s bad
    → Paid s bad o (waits (tried_with r (standing (failed_so_often n s) c o)))
tried_with_paid s n c o bad (Some r) e p =
    let more = calls-more o (with_request r o) (Send o.next Placement r) refl in
    let rest = sleeps-more o (with_request r o) (Send o.next Placement r) refl in
    paid_waits s (tried_with (Some r) (standing (failed_so_often n s) c o)).call bad o (with_request r o) (omega arith) (omega arith)
tried_with_paid s n c o bad None e p =
    let more = calls-more o (with_ask o) (Ask o.next_ask) refl in
    let rest = sleeps-more o (with_ask o) (Ask o.next_ask) refl in
    let time = ap asks_of (time_of_ask s.query e) in
    paid_waits s (tried_with None (standing (failed_so_often n s) c o)).call bad o (with_ask o) (omega arith) (omega arith)

pub tried_paid : (s : PdCall) (n : ℕ) (c : RetryClient) (o : Posted) (bad : Bool) → HasTry s bad → Paid s bad o (waits (tried (standing (failed_so_often n s) c o)))
tried_paid s n c o bad p = tried_with_paid s n c o bad (request_of s.query) refl p

connecting_if_paid : (b : Bool) (s : PdCall) (n : ℕ) (c : RetryClient) (o : Posted) (bad : Bool) (lost : ℕ) → HasTry s bad
    → Paid s bad o (waits (if b then connecting lost (standing (failed_so_often n s) c o) else tried (standing (failed_so_often n s) c o)))
connecting_if_paid true s n c o bad lost p =
    let more = calls-more o (with_request members o) (Send o.next Placement members) refl in
    let rest = sleeps-more o (with_request members o) (Send o.next Placement members) refl in
    paid_waits s (connecting lost (standing (failed_so_often n s) c o)).call bad o (with_request members o) (omega arith) (omega arith)
connecting_if_paid false s n c o bad lost p = tried_paid s n c o bad p

pub reconnected_paid : (s : PdCall) (n : ℕ) (c : RetryClient) (o : Posted) (bad : Bool) (lost now : ℕ) → HasTry s bad
    → Paid s bad o (waits (reconnected lost now (standing (failed_so_often n s) c o)))
reconnected_paid s n c o bad lost now p = connecting_if_paid (may_connect c now) s n c o bad lost p

pub ends_paid : (s : PdCall) (c : RetryClient) (o : Posted) (bad : Bool) (v : Result PdAnswer Error) → (is_loss v ≡ true → bad ≡ true) → Paid s bad o (ends v (standing s c o))
ends_paid s c o bad v f = paid s (over (standing s c o)).call bad o o true (is_loss v) f (omega arith) (omega arith) (omega arith) (omega arith)

pub quiet_paid : (s : PdCall) (c : RetryClient) (o : Posted) (bad : Bool) → Paid s bad o (waits (standing s c o))
quiet_paid s c o bad = paid_waits s s bad o o (omega arith) (omega arith)

failing_if_paid : (b : Bool) (s : PdCall) (c : RetryClient) (o : Posted) (bad : Bool) (now : ℕ) (why : Error) → HasTry s bad → (is_loss (Err why) ≡ true → bad ≡ true)
    → Paid s bad o (if b then record { turn = Waits; at = reconnected 0 now (one_more_failed (standing s c o)) } else record { turn = Ends (Err why); at = over (standing s c o) })
failing_if_paid true s c o bad now why p f = reconnected_paid s (s.failed + 1) c o bad 0 now p
failing_if_paid false s c o bad now why p f = ends_paid s c o bad (Err why) f

pub failing_try_paid : (s : PdCall) (c : RetryClient) (o : Posted) (bad : Bool) (now : ℕ) (why : Error) → HasTry s bad → (is_loss (Err why) ≡ true → bad ≡ true)
    → Paid s bad o (failing_try why now (standing s c o))
failing_try_paid s c o bad now why p f = failing_if_paid (nat_lt (s.failed + 1) 10) s c o bad now why p f

losing_if_paid : (b : Bool) (s : PdCall) (c : RetryClient) (o : Posted) (lost : ℕ) (why : Error)
    → Paid s true o (if b then record { turn = Waits; at = resting (lost + 1) (standing s c o) } else record { turn = Ends (Err why); at = over (standing s c o) })
losing_if_paid true s c o lost why =
    let more = calls-more o (with_sleep 1000 o) (Sleep o.next 1000) refl in
    let rest = sleeps-more o (with_sleep 1000 o) (Sleep o.next 1000) refl in
    paid s (resting (lost + 1) (standing s c o)).call true o (with_sleep 1000 o) true false (λ e. refl) (omega arith) (omega arith) (omega arith) (omega arith)
losing_if_paid false s c o lost why = ends_paid s c o true (Err why) (λ e. refl)

pub losing_members_paid : (s : PdCall) (c : RetryClient) (o : Posted) (lost : ℕ) (why : Error) → Paid s true o (losing_members why lost (standing s c o))
losing_members_paid s c o lost why = losing_if_paid (nat_lt (lost + 1) 5) s c o lost why

-- each event

left_here : (s : PdCall) (g : Stage) → s.stage ≡ g → left_at s.query s.stage ≡ left_at s.query g
left_here s g e = ap (λ x. left_at s.query x) e

pub start_paid : (s : PdCall) (c : RetryClient) (o : Posted) (g : Stage) → s.stage ≡ g → Paid s false o (on_start g (standing s c o))
start_paid s c o stage.Fresh e = tried_paid s s.failed c o false (let x = left_here s stage.Fresh e in omega arith)
start_paid s c o (stage.Sent n) e = quiet_paid s c o false
start_paid s c o (stage.Asked n) e = quiet_paid s c o false
start_paid s c o (stage.Reconnecting n lost) e = quiet_paid s c o false
start_paid s c o (stage.Resting n lost) e = quiet_paid s c o false
start_paid s c o stage.Over e = quiet_paid s c o false
start_paid s c o stage.Stopped e = quiet_paid s c o false

failing_if_heard : (b : Bool) (s : PdCall) (c : RetryClient) (o : Posted) (now : ℕ) (why : Error) → Paid s true o (if b then failing_try why now (standing s c o) else waits (standing s c o))
failing_if_heard true s c o now why = failing_try_paid s c o true now why (omega arith) (λ e. refl)
failing_if_heard false s c o now why = quiet_paid s c o true

losing_if_heard : (b : Bool) (s : PdCall) (c : RetryClient) (o : Posted) (lost : ℕ) (why : Error) → Paid s true o (if b then losing_members why lost (unconnected (standing s c o)) else waits (standing s c o))
losing_if_heard true s c o lost why = losing_members_paid s (record c { connecting = false }) o lost why
losing_if_heard false s c o lost why = quiet_paid s c o true

pub loss_paid : (s : PdCall) (c : RetryClient) (o : Posted) (n now : ℕ) (g : Stage) → Paid s true o (on_loss g n now (standing s c o))
loss_paid s c o n now stage.Fresh = quiet_paid s c o true
loss_paid s c o n now (stage.Sent k) = failing_if_heard (nat_eq k n) s c o now (GrpcAPI (ticket_of o n))
loss_paid s c o n now (stage.Asked k) = quiet_paid s c o true
loss_paid s c o n now (stage.Reconnecting k lost) = losing_if_heard (nat_eq k n) s c o lost (GrpcAPI (ticket_of o n))
loss_paid s c o n now (stage.Resting k lost) = quiet_paid s c o true
loss_paid s c o n now stage.Over = quiet_paid s c o true
loss_paid s c o n now stage.Stopped = quiet_paid s c o true

waking_if_paid : (b : Bool) (s : PdCall) (c : RetryClient) (o : Posted) (lost now : ℕ) → HasTry s false → Paid s false o (if b then waits (reconnected lost now (standing s c o)) else waits (standing s c o))
waking_if_paid true s c o lost now p = reconnected_paid s s.failed c o false lost now p
waking_if_paid false s c o lost now p = quiet_paid s c o false

pub waking_paid : (s : PdCall) (c : RetryClient) (o : Posted) (n now : ℕ) (g : Stage) → s.stage ≡ g → Paid s false o (on_waking g n now (standing s c o))
waking_paid s c o n now stage.Fresh e = quiet_paid s c o false
waking_paid s c o n now (stage.Sent k) e = quiet_paid s c o false
waking_paid s c o n now (stage.Asked k) e = quiet_paid s c o false
waking_paid s c o n now (stage.Reconnecting k lost) e = quiet_paid s c o false
waking_paid s c o n now (stage.Resting k lost) e = waking_if_paid (nat_eq k n) s c o lost now (let x = left_here s (stage.Resting k lost) e in omega arith)
waking_paid s c o n now stage.Over e = quiet_paid s c o false
waking_paid s c o n now stage.Stopped e = quiet_paid s c o false

timestamp_paid : (told : Result Timestamp Error) (s : PdCall) (c : RetryClient) (o : Posted) (now : ℕ) → Paid s (is_err told) o (on_timestamp told now (standing s c o))
timestamp_paid (Ok t) s c o now = ends_paid s c o false (Ok (answer.Time t)) (λ e. e)
timestamp_paid (Err why) s c o now = failing_try_paid s c o true now why (omega arith) (λ e. refl)

answer_if_paid : (b : Bool) (s : PdCall) (c : RetryClient) (o : Posted) (now : ℕ) (told : Result Timestamp Error) → Paid s (is_err told) o (if b then on_timestamp told now (standing s c o) else waits (standing s c o))
answer_if_paid true s c o now told = timestamp_paid told s c o now
answer_if_paid false s c o now told = quiet_paid s c o (is_err told)

pub answer_paid : (s : PdCall) (c : RetryClient) (o : Posted) (n now : ℕ) (told : Result Timestamp Error) (g : Stage) → Paid s (is_err told) o (on_answer g n told now (standing s c o))
answer_paid s c o n now told stage.Fresh = quiet_paid s c o (is_err told)
answer_paid s c o n now told (stage.Sent k) = quiet_paid s c o (is_err told)
answer_paid s c o n now told (stage.Asked k) = answer_if_paid (nat_eq k n) s c o now told
answer_paid s c o n now told (stage.Reconnecting k lost) = quiet_paid s c o (is_err told)
answer_paid s c o n now told (stage.Resting k lost) = quiet_paid s c o (is_err told)
answer_paid s c o n now told stage.Over = quiet_paid s c o (is_err told)
answer_paid s c o n now told stage.Stopped = quiet_paid s c o (is_err told)

no_region_no_ask : (q : PdQuery) (x : Reply) → HasNoRegion q x → asks_of q ≡ 0
no_region_no_ask (Region key) x e = refl
no_region_no_ask (RegionId id) x e = refl
no_region_no_ask (Store id) x e = refl
no_region_no_ask Stores x e = refl
no_region_no_ask Time x e = absurd e
no_region_no_ask (Safepoint at) x e = refl

not_found_no_loss : (q : PdQuery) → is_loss (Err (not_found q)) ≡ false
not_found_no_loss (Region key) = refl
not_found_no_loss (RegionId id) = refl
not_found_no_loss (Store id) = refl
not_found_no_loss Stores = refl
not_found_no_loss Time = refl
not_found_no_loss (Safepoint at) = refl

query_reply_paid : (s : PdCall) (c : RetryClient) (o : Posted) (now : ℕ) (x : Reply) (st : Stood) → IsQueryReply x now (standing s c o) st → Paid s false o st
query_reply_paid s c o now x st (inl m) = subst (Paid s false o) (sym m.2) (ends_paid s c o false (Ok m.0) (λ e. e))
query_reply_paid s c o now x st (inr (inl m)) = subst (Paid s false o) (sym m.1)
    (failing_try_paid s c o false now (not_found s.query) (let none = no_region_no_ask s.query x m.0 in omega arith) (λ e. sym (not_found_no_loss s.query) ∙ e))
query_reply_paid s c o now x st (inr (inr m)) = subst (Paid s false o) (sym m.1) (ends_paid s c o false (Err (InternalError WrongReply)) (λ e. e))

members_reply_paid : (s : PdCall) (c : RetryClient) (o : Posted) (now : ℕ) (x : Reply) (st : Stood) → HasTry s false → IsMembersReply x now (standing s c o) st → Paid s false o st
members_reply_paid s c o now x st p (inl m) = subst (Paid s false o) (sym m.2) (tried_paid s s.failed (record c { last_connected = now; connecting = false }) o false p)
members_reply_paid s c o now x st p (inr m) = subst (Paid s false o) (sym m.1) (ends_paid s (record c { connecting = false }) o false (Err (InternalError WrongReply)) (λ e. e))

quiet_reply_paid : (s : PdCall) (c : RetryClient) (o : Posted) (st : Stood) → st ≡ waits (standing s c o) → Paid s false o st
quiet_reply_paid s c o st i = subst (Paid s false o) (sym i) (quiet_paid s c o false)

reply_if_sent_paid : (b : Bool) (s : PdCall) (c : RetryClient) (o : Posted) (now : ℕ) (x : Reply) (st : Stood) → MatchBool b (IsQueryReply x now (standing s c o) st) (st ≡ waits (standing s c o)) → Paid s false o st
reply_if_sent_paid true s c o now x st i = query_reply_paid s c o now x st i
reply_if_sent_paid false s c o now x st i = quiet_reply_paid s c o st i

reply_if_reconnecting_paid : (b : Bool) (s : PdCall) (c : RetryClient) (o : Posted) (now : ℕ) (x : Reply) (st : Stood) → HasTry s false
    → MatchBool b (IsMembersReply x now (standing s c o) st) (st ≡ waits (standing s c o)) → Paid s false o st
reply_if_reconnecting_paid true s c o now x st p i = members_reply_paid s c o now x st p i
reply_if_reconnecting_paid false s c o now x st p i = quiet_reply_paid s c o st i

pub reply_paid : (s : PdCall) (c : RetryClient) (o : Posted) (n now : ℕ) (x : Reply) (st : Stood) (g : Stage) → s.stage ≡ g → IsOnReply g n x now (standing s c o) st → Paid s false o st
reply_paid s c o n now x st stage.Fresh e i = quiet_reply_paid s c o st i
reply_paid s c o n now x st (stage.Sent k) e i = reply_if_sent_paid (nat_eq k n) s c o now x st i
reply_paid s c o n now x st (stage.Asked k) e i = quiet_reply_paid s c o st i
reply_paid s c o n now x st (stage.Reconnecting k lost) e i = reply_if_reconnecting_paid (nat_eq k n) s c o now x st (let y = left_here s (stage.Reconnecting k lost) e in omega arith) i
reply_paid s c o n now x st (stage.Resting k lost) e i = quiet_reply_paid s c o st i
reply_paid s c o n now x st stage.Over e i = quiet_reply_paid s c o st i
reply_paid s c o n now x st stage.Stopped e i = quiet_reply_paid s c o st i

-- no sleep is begun, but for the members

tried_with_awake : (r : Option Request) (x : Standing) → sleeps (tried_with r x).out ≡ sleeps x.out
tried_with_awake (Some r) x = let rest = sleeps-more x.out (with_request r x.out) (Send x.out.next Placement r) refl in omega arith
tried_with_awake None x = let rest = sleeps-more x.out (with_ask x.out) (Ask x.out.next_ask) refl in omega arith

reconnected_if_awake : (b : Bool) (lost : ℕ) (x : Standing) → sleeps (if b then connecting lost x else tried x).out ≡ sleeps x.out
reconnected_if_awake true lost x = let rest = sleeps-more x.out (with_request members x.out) (Send x.out.next Placement members) refl in omega arith
reconnected_if_awake false lost x = tried_with_awake (request_of x.call.query) x

abbrev pub sleeps_then : Stood → ℕ
sleeps_then st = sleeps st.at.out

failing_if_awake : (b : Bool) (why : Error) (now : ℕ) (x : Standing)
    → sleeps_then (if b then record { turn = Waits; at = reconnected 0 now (one_more_failed x) } else record { turn = Ends (Err why); at = over x }) ≡ sleeps x.out
failing_if_awake true why now x = reconnected_if_awake (may_connect x.client now) 0 (one_more_failed x)
failing_if_awake false why now x = refl

timestamp_awake : (told : Result Timestamp Error) (now : ℕ) (x : Standing) → sleeps_then (on_timestamp told now x) ≡ sleeps x.out
timestamp_awake (Ok t) now x = refl
timestamp_awake (Err why) now x = failing_if_awake (nat_lt (x.call.failed + 1) 10) why now x

answer_if_awake : (b : Bool) (told : Result Timestamp Error) (now : ℕ) (x : Standing) → sleeps_then (if b then on_timestamp told now x else waits x) ≡ sleeps x.out
answer_if_awake true told now x = timestamp_awake told now x
answer_if_awake false told now x = refl

pub answer_awake : (g : Stage) (n : ℕ) (told : Result Timestamp Error) (now : ℕ) (x : Standing) → sleeps_then (on_answer g n told now x) ≡ sleeps x.out
answer_awake stage.Fresh n told now x = refl
answer_awake (stage.Sent k) n told now x = refl
answer_awake (stage.Asked k) n told now x = answer_if_awake (nat_eq k n) told now x
answer_awake (stage.Reconnecting k lost) n told now x = refl
answer_awake (stage.Resting k lost) n told now x = refl
answer_awake stage.Over n told now x = refl
answer_awake stage.Stopped n told now x = refl
