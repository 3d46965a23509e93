-- What an event of a call to the placement driver does: what it posts, where the call then stands, and what becomes of the
-- client's connection.
use Rattle.std.specs.Bool.{MatchBool}
use Rattle.std.specs.Prelude.{◌≡◌, ◌≢◌, ◌⊎◌, ℕ, ◌+◌, ◌++◌, true, false, if◌then◌else◌, nat_eq, nat_lt, [], ◌∷◌, Option, Some, None, Result, Ok, Err}
use Rattle.txn_kv.specs.declared.errors.Error.{Error}
use Rattle.txn_kv.specs.declared.errors.Error.TheVariants.{GrpcAPI, InternalError}
use Rattle.txn_kv.specs.declared.errors.Internal.TheVariants.{WrongReply}
use Rattle.txn_kv.specs.declared.outbox.Errand.TheVariants.{Send, Sleep, Ask}
use Rattle.txn_kv.specs.declared.query.PdAnswer.{PdAnswer}
use Rattle.txn_kv.specs.declared.query.PdAnswer.TheVariants as answer
use Rattle.txn_kv.specs.declared.query.PdQuery.{PdQuery}
use Rattle.txn_kv.specs.declared.reply.cluster.MembersResponse.{MembersResponse}
use Rattle.txn_kv.specs.declared.reply.Reply.{Reply}
use Rattle.txn_kv.specs.declared.reply.Reply.TheVariants as reply
use Rattle.txn_kv.specs.declared.request.Request.{Request}
use Rattle.txn_kv.specs.declared.ticket.Target.TheVariants.{Placement}
use Rattle.txn_kv.specs.declared.timestamp.Timestamp.{Timestamp}
use Rattle.txn_history.specs.Posted.{Posted, ticket_of}
use Rattle.txn_history.specs.Turn.{Turn}
use Rattle.txn_history.specs.Turn.Turn.{Stopped, Waits, Ends}
use Rattle.txn_tso.specs.Placement.{may_connect, request_of, not_found, Answers, HasNoRegion, IsOfOtherKind}
use Rattle.txn_tso.specs.Calling.{members}
use Rattle.txn_tso.specs.declared.pd_call.PdCall.{PdCall}
use Rattle.txn_tso.specs.declared.retry_client.RetryClient.{RetryClient}
use Rattle.txn_tso.specs.declared.stage.Stage.{Stage}
use Rattle.txn_tso.specs.declared.stage.Stage.TheVariants as stage

-- a call with its client and its line's outbox
pub record Standing : Type 0 where
  pub call : PdCall
  pub client : RetryClient
  pub out : Posted

abbrev pub with_request : Request → Posted → Posted
with_request r o = record o { next = o.next + 1; sends = o.sends ++ Send o.next Placement r ∷ [] }

abbrev pub with_sleep : ℕ → Posted → Posted
with_sleep ms o = record o { next = o.next + 1; sends = o.sends ++ Sleep o.next ms ∷ [] }

abbrev pub with_ask : Posted → Posted
with_ask o = record o { next_ask = o.next_ask + 1; sends = o.sends ++ Ask o.next_ask ∷ [] }

abbrev pub at_stage : Stage → PdCall → PdCall
at_stage g s = record s { stage = g }

-- a try is out: the query's request, or an ask
abbrev pub tried_with : Option Request → Standing → Standing
tried_with (Some r) x = record { call = at_stage (stage.Sent x.out.next) x.call; client = x.client; out = with_request r x.out }
tried_with None x = record { call = at_stage (stage.Asked x.out.next_ask) x.call; client = x.client; out = with_ask x.out }

abbrev pub tried : Standing → Standing
tried x = tried_with (request_of x.call.query) x

-- the members are asked for, after so many such requests that were lost
abbrev pub connecting : ℕ → Standing → Standing
connecting lost x = record { call = at_stage (stage.Reconnecting x.out.next lost) x.call; client = record x.client { connecting = true }; out = with_request members x.out }

-- A reconnect: the members are asked for, where more than a second has passed and no call waits for them; and else there is
-- nothing to wait for, and the next try is out.
abbrev pub reconnected : ℕ → ℕ → Standing → Standing
reconnected lost now x = if may_connect x.client now then connecting lost x else tried x

-- it sleeps for a second
abbrev pub resting : ℕ → Standing → Standing
resting lost x = record { call = at_stage (stage.Resting x.out.next lost) x.call; client = x.client; out = with_sleep 1000 x.out }

abbrev pub over : Standing → Standing
over x = record { call = at_stage stage.Over x.call; client = x.client; out = x.out }

abbrev pub one_more_failed : Standing → Standing
one_more_failed x = record { call = record x.call { failed = x.call.failed + 1 }; client = x.client; out = x.out }

-- how the call ends, and how it stands then
pub record Stood : Type 0 where
  pub turn : Turn (Result PdAnswer Error)
  pub at : Standing

-- a try has failed, for this reason: the tenth failure is the answer, and a reconnect follows each before it
abbrev pub failing_try : Error → ℕ → Standing → Stood
failing_try why now x =
    if nat_lt (x.call.failed + 1) 10 then record { turn = Waits; at = reconnected 0 now (one_more_failed x) }
    else record { turn = Ends (Err why); at = over x }

-- a request for the members was lost, of ticket and all: the fifth since the last try is the answer
abbrev pub losing_members : Error → ℕ → Standing → Stood
losing_members why lost x =
    if nat_lt (lost + 1) 5 then record { turn = Waits; at = resting (lost + 1) x }
    else record { turn = Ends (Err why); at = over x }

-- The call of this query did so, where so much was posted before; unless it gave up for want of memory. Then it has given up
-- for good, and nothing was posted.
abbrev pub Stands : PdQuery → Posted → Stood → Turn (Result PdAnswer Error) → Standing → Type 0
Stands q o s Stopped x = (x.call.stage ≡ stage.Stopped) × (x.call.query ≡ q) × (x.out ≡ o)
Stands q o s Waits x = (s.turn ≡ Waits) × (x ≡ s.at)
Stands q o s (Ends v) x = (s.turn ≡ Ends v) × (x ≡ s.at)

abbrev pub standing : PdCall → RetryClient → Posted → Standing
standing s c o = record { call = s; client = c; out = o }

-- there is no answer yet
abbrev pub waits : Standing → Stood
waits x = record { turn = Waits; at = x }

-- this is the answer
abbrev pub ends : Result PdAnswer Error → Standing → Stood
ends v x = record { turn = Ends v; at = over x }

-- the members answered just now, or will not answer
abbrev pub connected : ℕ → Standing → Standing
connected now x = record { call = x.call; client = record x.client { last_connected = now; connecting = false }; out = x.out }

abbrev pub unconnected : Standing → Standing
unconnected x = record { call = x.call; client = record x.client { connecting = false }; out = x.out }

-- what each event does, by where the call stands; an event that it does not wait for does nothing

abbrev pub on_start : Stage → Standing → Stood
on_start stage.Fresh x = waits (tried x)
on_start _ x = waits x

-- the request of number n was lost
abbrev pub on_loss : Stage → ℕ → ℕ → Standing → Stood
on_loss (stage.Sent k) n now x = if nat_eq k n then failing_try (GrpcAPI (ticket_of x.out n)) now x else waits x
on_loss (stage.Reconnecting k lost) n now x = if nat_eq k n then losing_members (GrpcAPI (ticket_of x.out n)) lost (unconnected x) else waits x
on_loss _ n now x = waits x

-- the sleep of number n has ended
abbrev pub on_waking : Stage → ℕ → ℕ → Standing → Stood
on_waking (stage.Resting k lost) n now x = if nat_eq k n then waits (reconnected lost now x) else waits x
on_waking _ n now x = waits x

abbrev pub on_timestamp : Result Timestamp Error → ℕ → Standing → Stood
on_timestamp (Ok t) now x = ends (Ok (answer.Time t)) x
on_timestamp (Err why) now x = failing_try why now x

-- the ask of number n was answered
abbrev pub on_answer : Stage → ℕ → Result Timestamp Error → ℕ → Standing → Stood
on_answer (stage.Asked k) n told now x = if nat_eq k n then on_timestamp told now x else waits x
on_answer _ n told now x = waits x

-- the reply to the query came
abbrev pub IsQueryReply : Reply → ℕ → Standing → Stood → Type 0
IsQueryReply r now x s =
    ((a : PdAnswer) × Answers x.call.query r a × (s ≡ ends (Ok a) x))
    ⊎ ((HasNoRegion x.call.query r × (s ≡ failing_try (not_found x.call.query) now x))
    ⊎ (IsOfOtherKind x.call.query r × (s ≡ ends (Err (InternalError WrongReply)) x)))

-- the reply to the request for the members came
abbrev pub IsMembersReply : Reply → ℕ → Standing → Stood → Type 0
IsMembersReply r now x s =
    ((o : MembersResponse) × (r ≡ reply.Members o) × (s ≡ waits (tried (connected now x))))
    ⊎ (((o : MembersResponse) → r ≢ reply.Members o) × (s ≡ ends (Err (InternalError WrongReply)) (unconnected x)))

-- the reply to the request of number n came
abbrev pub IsOnReply : Stage → ℕ → Reply → ℕ → Standing → Stood → Type 0
IsOnReply (stage.Sent k) n r now x s = MatchBool (nat_eq k n) (IsQueryReply r now x s) (s ≡ waits x)
IsOnReply (stage.Reconnecting k lost) n r now x s = MatchBool (nat_eq k n) (IsMembersReply r now x s) (s ≡ waits x)
IsOnReply _ n r now x s = s ≡ waits x

-- one of these came about
abbrev pub StandsBy : PdQuery → Posted → (Stood → Type 0) → Turn (Result PdAnswer Error) → Standing → Type 0
StandsBy q o is turn x = (s : Stood) × is s × Stands q o s turn x
