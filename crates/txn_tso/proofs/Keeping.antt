-- What each step of a call keeps: its query, and that its outbox has numbers left.
use Rattle.std.proofs.Common.{◌≡◌, inl, inr, ℕ, ◌+◌, ◌++◌, ◌∷◌, [], Bool, true, false, Option, Some, None, List, length, sym, subst, arith}
use Rattle.std.proofs.lemmas.List.{length-append}
use Rattle.std.specs.Bool.{MatchBool}
use Rattle.std.specs.Prelude.{if◌then◌else◌, nat_eq, nat_lt, Result, Ok, Err}
use Rattle.txn_kv.specs.declared.errors.Error.{Error}
use Rattle.txn_kv.specs.declared.errors.Error.TheVariants.{GrpcAPI}
use Rattle.txn_kv.specs.declared.outbox.Errand.TheVariants.{Send, Sleep, Ask}
use Rattle.txn_kv.specs.declared.query.PdQuery.{PdQuery}
use Rattle.txn_kv.specs.declared.reply.Reply.{Reply}
use Rattle.txn_kv.specs.declared.request.Request.{Request}
use Rattle.txn_kv.specs.declared.ticket.Target.TheVariants.{Placement}
use Rattle.txn_kv.specs.declared.timestamp.Timestamp.{Timestamp}
use Rattle.txn_history.specs.Posted.{Errand, HasNumbers, ticket_of}
use Rattle.txn_history.specs.Turn.Turn.{Waits, Ends}
use Rattle.txn_tso.specs.Calling.{members}
use Rattle.txn_tso.specs.Placement.{may_connect, not_found, request_of}
use Rattle.txn_tso.specs.Steps.{connected, connecting, failing_try, losing_members, on_answer, on_loss, on_start, on_timestamp, on_waking, one_more_failed, over, reconnected, resting, tried, tried_with, unconnected, waits, with_ask, with_request, with_sleep, IsMembersReply, IsOnReply, IsQueryReply, Standing, Stood}
use Rattle.txn_tso.specs.declared.stage.Stage.{Stage}
use Rattle.txn_tso.specs.declared.stage.Stage.TheVariants as stage

-- each thing that a call does keeps it
pub record IsKept (P : Standing → Type 0) : Type 0 where
  pub tries : (r : Option Request) (x : Standing) → P x → P (tried_with r x)
  pub connects : (lost : ℕ) (x : Standing) → P x → P (connecting lost x)
  pub rests : (lost : ℕ) (x : Standing) → P x → P (resting lost x)
  pub ends : (x : Standing) → P x → P (over x)
  pub fails : (x : Standing) → P x → P (one_more_failed x)
  pub joins : (now : ℕ) (x : Standing) → P x → P (connected now x)
  pub parts : (x : Standing) → P x → P (unconnected x)

abbrev pub Then : (Standing → Type 0) → Stood → Type 0
Then P st = P st.at

tried_kept : (P : Standing → Type 0) → IsKept P → (x : Standing) → P x → P (tried x)
tried_kept P k x p = k.tries (request_of x.call.query) x p

reconnected_if_kept : (P : Standing → Type 0) → IsKept P → (b : Bool) (lost : ℕ) (x : Standing) → P x → P (if b then connecting lost x else tried x)
reconnected_if_kept P k true lost x p = k.connects lost x p
reconnected_if_kept P k false lost x p = tried_kept P k x p

failing_if_kept : (P : Standing → Type 0) → IsKept P → (b : Bool) (why : Error) (now : ℕ) (x : Standing) → P x
    → Then P (if b then record { turn = Waits; at = reconnected 0 now (one_more_failed x) } else record { turn = Ends (Err why); at = over x })
failing_if_kept P k true why now x p = reconnected_if_kept P k (may_connect x.client now) 0 (one_more_failed x) (k.fails x p)
failing_if_kept P k false why now x p = k.ends x p

failing_try_kept : (P : Standing → Type 0) → IsKept P → (why : Error) (now : ℕ) (x : Standing) → P x → Then P (failing_try why now x)
failing_try_kept P k why now x p = failing_if_kept P k (nat_lt (x.call.failed + 1) 10) why now x p

losing_if_kept : (P : Standing → Type 0) → IsKept P → (b : Bool) (why : Error) (lost : ℕ) (x : Standing) → P x
    → Then P (if b then record { turn = Waits; at = resting (lost + 1) x } else record { turn = Ends (Err why); at = over x })
losing_if_kept P k true why lost x p = k.rests (lost + 1) x p
losing_if_kept P k false why lost x p = k.ends x p

if_kept : (P : Standing → Type 0) (b : Bool) (st : Stood) (x : Standing) → P x → Then P st → Then P (if b then st else waits x)
if_kept P true st x p q = q
if_kept P false st x p q = p

pub start_kept : (P : Standing → Type 0) → IsKept P → (g : Stage) (x : Standing) → P x → Then P (on_start g x)
start_kept P k stage.Fresh x p = tried_kept P k x p
start_kept P k (stage.Sent n) x p = p
start_kept P k (stage.Asked n) x p = p
start_kept P k (stage.Reconnecting n lost) x p = p
start_kept P k (stage.Resting n lost) x p = p
start_kept P k stage.Over x p = p
start_kept P k stage.Stopped x p = p

pub loss_kept : (P : Standing → Type 0) → IsKept P → (g : Stage) (n now : ℕ) (x : Standing) → P x → Then P (on_loss g n now x)
loss_kept P k stage.Fresh n now x p = p
loss_kept P k (stage.Sent j) n now x p = if_kept P (nat_eq j n) (failing_try (GrpcAPI (ticket_of x.out n)) now x) x p (failing_try_kept P k (GrpcAPI (ticket_of x.out n)) now x p)
loss_kept P k (stage.Asked j) n now x p = p
loss_kept P k (stage.Reconnecting j lost) n now x p =
    if_kept P (nat_eq j n) (losing_members (GrpcAPI (ticket_of x.out n)) lost (unconnected x)) x p (losing_if_kept P k (nat_lt (lost + 1) 5) (GrpcAPI (ticket_of x.out n)) lost (unconnected x) (k.parts x p))
loss_kept P k (stage.Resting j lost) n now x p = p
loss_kept P k stage.Over n now x p = p
loss_kept P k stage.Stopped n now x p = p

pub waking_kept : (P : Standing → Type 0) → IsKept P → (g : Stage) (n now : ℕ) (x : Standing) → P x → Then P (on_waking g n now x)
waking_kept P k stage.Fresh n now x p = p
waking_kept P k (stage.Sent j) n now x p = p
waking_kept P k (stage.Asked j) n now x p = p
waking_kept P k (stage.Reconnecting j lost) n now x p = p
waking_kept P k (stage.Resting j lost) n now x p = if_kept P (nat_eq j n) (waits (reconnected lost now x)) x p (reconnected_if_kept P k (may_connect x.client now) lost x p)
waking_kept P k stage.Over n now x p = p
waking_kept P k stage.Stopped n now x p = p

timestamp_kept : (P : Standing → Type 0) → IsKept P → (told : Result Timestamp Error) (now : ℕ) (x : Standing) → P x → Then P (on_timestamp told now x)
timestamp_kept P k (Ok t) now x p = k.ends x p
timestamp_kept P k (Err why) now x p = failing_try_kept P k why now x p

pub answer_kept : (P : Standing → Type 0) → IsKept P → (g : Stage) (n : ℕ) (told : Result Timestamp Error) (now : ℕ) (x : Standing) → P x → Then P (on_answer g n told now x)
answer_kept P k stage.Fresh n told now x p = p
answer_kept P k (stage.Sent j) n told now x p = p
answer_kept P k (stage.Asked j) n told now x p = if_kept P (nat_eq j n) (on_timestamp told now x) x p (timestamp_kept P k told now x p)
answer_kept P k (stage.Reconnecting j lost) n told now x p = p
answer_kept P k (stage.Resting j lost) n told now x p = p
answer_kept P k stage.Over n told now x p = p
answer_kept P k stage.Stopped n told now x p = p

query_reply_kept : (P : Standing → Type 0) → IsKept P → (r : Reply) (now : ℕ) (x : Standing) (st : Stood) → P x → IsQueryReply r now x st → Then P st
query_reply_kept P k r now x st p (inl m) = subst (Then P) (sym m.2) (k.ends x p)
query_reply_kept P k r now x st p (inr (inl m)) = subst (Then P) (sym m.1) (failing_try_kept P k (not_found x.call.query) now x p)
query_reply_kept P k r now x st p (inr (inr m)) = subst (Then P) (sym m.1) (k.ends x p)

members_reply_kept : (P : Standing → Type 0) → IsKept P → (r : Reply) (now : ℕ) (x : Standing) (st : Stood) → P x → IsMembersReply r now x st → Then P st
members_reply_kept P k r now x st p (inl m) = subst (Then P) (sym m.2) (tried_kept P k (connected now x) (k.joins now x p))
members_reply_kept P k r now x st p (inr m) = subst (Then P) (sym m.1) (k.ends (unconnected x) (k.parts x p))

match_kept : (P : Standing → Type 0) (b : Bool) (Q : Type 0) (x : Standing) (st : Stood) → P x → (Q → Then P st) → MatchBool b Q (st ≡ waits x) → Then P st
match_kept P true Q x st p h m = h m
match_kept P false Q x st p h m = subst (Then P) (sym m) p

pub reply_kept : (P : Standing → Type 0) → IsKept P → (g : Stage) (n : ℕ) (r : Reply) (now : ℕ) (x : Standing) (st : Stood) → P x → IsOnReply g n r now x st → Then P st
reply_kept P k stage.Fresh n r now x st p i = subst (Then P) (sym i) p
reply_kept P k (stage.Sent j) n r now x st p i = match_kept P (nat_eq j n) (IsQueryReply r now x st) x st p (query_reply_kept P k r now x st p) i
reply_kept P k (stage.Asked j) n r now x st p i = subst (Then P) (sym i) p
reply_kept P k (stage.Reconnecting j lost) n r now x st p i = match_kept P (nat_eq j n) (IsMembersReply r now x st) x st p (members_reply_kept P k r now x st p) i
reply_kept P k (stage.Resting j lost) n r now x st p i = subst (Then P) (sym i) p
reply_kept P k stage.Over n r now x st p i = subst (Then P) (sym i) p
reply_kept P k stage.Stopped n r now x st p i = subst (Then P) (sym i) p

-- what is kept

abbrev pub Asks : PdQuery → Standing → Type 0
Asks q x = x.call.query ≡ q

tries_query : (q : PdQuery) (r : Option Request) (x : Standing) → Asks q x → Asks q (tried_with r x)
tries_query q (Some r) x p = p
tries_query q None x p = p

pub query_kept : (q : PdQuery) → IsKept (Asks q)
query_kept q = record {
  tries = tries_query q;
  connects = λ lost x p. p;
  rests = λ lost x p. p;
  ends = λ x p. p;
  fails = λ x p. p;
  joins = λ now x p. p;
  parts = λ x p. p;
}

abbrev pub HasMore : Standing → Type 0
HasMore x = HasNumbers x.out

one_longer : (es : List Errand) (e : Errand) → length (es ++ e ∷ []) ≡ length es + 1
one_longer es e = length-append es (e ∷ [])

request_leaves : (r : Request) (x : Standing) → HasMore x → HasNumbers (with_request r x.out)
request_leaves r x p = let long = one_longer x.out.sends (Send x.out.next Placement r) in record { next = omega (arith, p.next); next_ask = omega (arith, p.next_ask) }

ask_leaves : (x : Standing) → HasMore x → HasNumbers (with_ask x.out)
ask_leaves x p = let long = one_longer x.out.sends (Ask x.out.next_ask) in record { next = omega (arith, p.next); next_ask = omega (arith, p.next_ask) }

sleep_leaves : (x : Standing) → HasMore x → HasNumbers (with_sleep 1000 x.out)
sleep_leaves x p = let long = one_longer x.out.sends (Sleep x.out.next 1000) in record { next = omega (arith, p.next); next_ask = omega (arith, p.next_ask) }

tries_numbers : (r : Option Request) (x : Standing) → HasMore x → HasMore (tried_with r x)
tries_numbers (Some r) x p = request_leaves r x p
tries_numbers None x p = ask_leaves x p

pub numbers_kept : IsKept HasMore
numbers_kept = record {
  tries = tries_numbers;
  connects = λ lost x p. request_leaves members x p;
  rests = λ lost x p. sleep_leaves x p;
  ends = λ x p. p;
  fails = λ x p. p;
  joins = λ now x p. p;
  parts = λ x p. p;
}
