-- What a call that heard an event then waits for.
use Rattle.std.proofs.Common.{◌≡◌, inl, inr, ℕ, ◌+◌, Bool, true, false, Option, Some, None, refl, sym, subst}
use Rattle.std.proofs.lemmas.Bool.{false≢true}
use Rattle.std.specs.Bool.{MatchBool}
use Rattle.std.specs.Prelude.{if◌then◌else◌, nat_eq, nat_lt, Result, Ok, Err}
use Rattle.txn_kv.specs.declared.errors.Error.{Error}
use Rattle.txn_kv.specs.declared.errors.Error.TheVariants.{GrpcAPI}
use Rattle.txn_kv.specs.declared.query.PdAnswer.{PdAnswer}
use Rattle.txn_kv.specs.declared.reply.Reply.{Reply}
use Rattle.txn_kv.specs.declared.request.Request.{Request}
use Rattle.txn_kv.specs.declared.timestamp.Timestamp.{Timestamp}
use Rattle.txn_history.specs.Posted.{ticket_of}
use Rattle.txn_history.specs.Turn.{Turn}
use Rattle.txn_history.specs.Turn.Turn.{Stopped, Waits, Ends}
use Rattle.txn_tso.specs.Heeding.{hears_answer, hears_reply, hears_start, hears_waking, IsOut}
use Rattle.txn_tso.specs.Placement.{may_connect, not_found, request_of}
use Rattle.txn_tso.specs.Steps.{connected, connecting, failing_try, losing_members, on_answer, on_loss, on_start, on_timestamp, on_waking, one_more_failed, over, reconnected, resting, tried, tried_with, unconnected, waits, IsMembersReply, IsOnReply, IsQueryReply, Standing, Stood}
use Rattle.txn_tso.specs.declared.stage.Stage.{Stage}
use Rattle.txn_tso.specs.declared.stage.Stage.TheVariants as stage

abbrev pub IsHeardBy : Turn (Result PdAnswer Error) → Standing → Type 0
IsHeardBy Stopped x = ⊥
IsHeardBy Waits x = IsOut x.call.stage x.out
IsHeardBy (Ends v) x = x.call.stage ≡ stage.Over

-- it waits for what was posted last, or has answered
abbrev pub IsHeard : Stood → Type 0
IsHeard st = IsHeardBy st.turn st.at

tried_with_heard : (r : Option Request) (x : Standing) → IsHeard (waits (tried_with r x))
tried_with_heard (Some r) x = refl
tried_with_heard None x = refl

tried_heard : (x : Standing) → IsHeard (waits (tried x))
tried_heard x = tried_with_heard (request_of x.call.query) x

connecting_if_heard : (b : Bool) (lost : ℕ) (x : Standing) → IsHeard (waits (if b then connecting lost x else tried x))
connecting_if_heard true lost x = refl
connecting_if_heard false lost x = tried_heard x

reconnected_heard : (lost now : ℕ) (x : Standing) → IsHeard (waits (reconnected lost now x))
reconnected_heard lost now x = connecting_if_heard (may_connect x.client now) lost x

failing_if_heard : (b : Bool) (why : Error) (now : ℕ) (x : Standing)
    → IsHeard (if b then record { turn = Waits; at = reconnected 0 now (one_more_failed x) } else record { turn = Ends (Err why); at = over x })
failing_if_heard true why now x = reconnected_heard 0 now (one_more_failed x)
failing_if_heard false why now x = refl

failing_try_heard : (why : Error) (now : ℕ) (x : Standing) → IsHeard (failing_try why now x)
failing_try_heard why now x = failing_if_heard (nat_lt (x.call.failed + 1) 10) why now x

losing_if_heard : (b : Bool) (why : Error) (lost : ℕ) (x : Standing)
    → IsHeard (if b then record { turn = Waits; at = resting (lost + 1) x } else record { turn = Ends (Err why); at = over x })
losing_if_heard true why lost x = refl
losing_if_heard false why lost x = refl

losing_members_heard : (why : Error) (lost : ℕ) (x : Standing) → IsHeard (losing_members why lost x)
losing_members_heard why lost x = losing_if_heard (nat_lt (lost + 1) 5) why lost x

-- each event

if_heard : (b : Bool) (st : Stood) (x : Standing) → b ≡ true → IsHeard st → IsHeard (if b then st else waits x)
if_heard true st x e h = h
if_heard false st x e h = absurd (false≢true e)

pub start_heard : (g : Stage) (x : Standing) → hears_start g ≡ true → IsHeard (on_start g x)
start_heard stage.Fresh x e = tried_heard x
start_heard (stage.Sent n) x e = absurd (false≢true e)
start_heard (stage.Asked n) x e = absurd (false≢true e)
start_heard (stage.Reconnecting n lost) x e = absurd (false≢true e)
start_heard (stage.Resting n lost) x e = absurd (false≢true e)
start_heard stage.Over x e = absurd (false≢true e)
start_heard stage.Stopped x e = absurd (false≢true e)

pub loss_heard : (g : Stage) (n now : ℕ) (x : Standing) → hears_reply g n ≡ true → IsHeard (on_loss g n now x)
loss_heard stage.Fresh n now x e = absurd (false≢true e)
loss_heard (stage.Sent k) n now x e = if_heard (nat_eq k n) (failing_try (GrpcAPI (ticket_of x.out n)) now x) x e (failing_try_heard (GrpcAPI (ticket_of x.out n)) now x)
loss_heard (stage.Asked k) n now x e = absurd (false≢true e)
loss_heard (stage.Reconnecting k lost) n now x e =
    if_heard (nat_eq k n) (losing_members (GrpcAPI (ticket_of x.out n)) lost (unconnected x)) x e (losing_members_heard (GrpcAPI (ticket_of x.out n)) lost (unconnected x))
loss_heard (stage.Resting k lost) n now x e = absurd (false≢true e)
loss_heard stage.Over n now x e = absurd (false≢true e)
loss_heard stage.Stopped n now x e = absurd (false≢true e)

pub waking_heard : (g : Stage) (n now : ℕ) (x : Standing) → hears_waking g n ≡ true → IsHeard (on_waking g n now x)
waking_heard stage.Fresh n now x e = absurd (false≢true e)
waking_heard (stage.Sent k) n now x e = absurd (false≢true e)
waking_heard (stage.Asked k) n now x e = absurd (false≢true e)
waking_heard (stage.Reconnecting k lost) n now x e = absurd (false≢true e)
waking_heard (stage.Resting k lost) n now x e = if_heard (nat_eq k n) (waits (reconnected lost now x)) x e (reconnected_heard lost now x)
waking_heard stage.Over n now x e = absurd (false≢true e)
waking_heard stage.Stopped n now x e = absurd (false≢true e)

timestamp_heard : (told : Result Timestamp Error) (now : ℕ) (x : Standing) → IsHeard (on_timestamp told now x)
timestamp_heard (Ok t) now x = refl
timestamp_heard (Err why) now x = failing_try_heard why now x

pub answer_heard : (g : Stage) (n : ℕ) (told : Result Timestamp Error) (now : ℕ) (x : Standing) → hears_answer g n ≡ true → IsHeard (on_answer g n told now x)
answer_heard stage.Fresh n told now x e = absurd (false≢true e)
answer_heard (stage.Sent k) n told now x e = absurd (false≢true e)
answer_heard (stage.Asked k) n told now x e = if_heard (nat_eq k n) (on_timestamp told now x) x e (timestamp_heard told now x)
answer_heard (stage.Reconnecting k lost) n told now x e = absurd (false≢true e)
answer_heard (stage.Resting k lost) n told now x e = absurd (false≢true e)
answer_heard stage.Over n told now x e = absurd (false≢true e)
answer_heard stage.Stopped n told now x e = absurd (false≢true e)

query_reply_heard : (r : Reply) (now : ℕ) (x : Standing) (st : Stood) → IsQueryReply r now x st → IsHeard st
query_reply_heard r now x st (inl m) = subst IsHeard (sym m.2) refl
query_reply_heard r now x st (inr (inl m)) = subst IsHeard (sym m.1) (failing_try_heard (not_found x.call.query) now x)
query_reply_heard r now x st (inr (inr m)) = subst IsHeard (sym m.1) refl

members_reply_heard : (r : Reply) (now : ℕ) (x : Standing) (st : Stood) → IsMembersReply r now x st → IsHeard st
members_reply_heard r now x st (inl m) = subst IsHeard (sym m.2) (tried_heard (connected now x))
members_reply_heard r now x st (inr m) = subst IsHeard (sym m.1) refl

match_heard : (b : Bool) (P : Type 0) (x : Standing) (st : Stood) → b ≡ true → (P → IsHeard st) → MatchBool b P (st ≡ waits x) → IsHeard st
match_heard true P x st e h m = h m
match_heard false P x st e h m = absurd (false≢true e)

pub reply_heard : (g : Stage) (n : ℕ) (r : Reply) (now : ℕ) (x : Standing) (st : Stood) → hears_reply g n ≡ true → IsOnReply g n r now x st → IsHeard st
reply_heard stage.Fresh n r now x st e i = absurd (false≢true e)
reply_heard (stage.Sent k) n r now x st e i = match_heard (nat_eq k n) (IsQueryReply r now x st) x st e (query_reply_heard r now x st) i
reply_heard (stage.Asked k) n r now x st e i = absurd (false≢true e)
reply_heard (stage.Reconnecting k lost) n r now x st e i = match_heard (nat_eq k n) (IsMembersReply r now x st) x st e (members_reply_heard r now x st) i
reply_heard (stage.Resting k lost) n r now x st e i = absurd (false≢true e)
reply_heard stage.Over n r now x st e i = absurd (false≢true e)
reply_heard stage.Stopped n r now x st e i = absurd (false≢true e)
