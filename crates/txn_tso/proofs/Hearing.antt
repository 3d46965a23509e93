-- What a call makes of each event is allowed, and leads to where the call can have arisen.
use Rattle.std.proofs.Common.{◌≡◌, inl, inr, ℕ, ◌<◌, ◌≤◌, Bool, true, false, List, ◌∷◌, Some, refl, sym, ap, subst, ◌∙◌, arith}
use Rattle.std.proofs.Math.Nat.{le_refl}
use Rattle.std.proofs.lemmas.Bool.{eqb-true}
use Rattle.std.specs.Bool.{MatchBool}
use Rattle.std.specs.Prelude.{if◌then◌else◌, nat_eq, Result, Ok, Err}
use Rattle.txn_kv.specs.declared.errors.Error.{Error}
use Rattle.txn_kv.specs.declared.errors.Error.TheVariants.{GrpcAPI, InternalError}
use Rattle.txn_kv.specs.declared.errors.Internal.TheVariants.{WrongReply}
use Rattle.txn_kv.specs.declared.query.PdAnswer.TheVariants as answer
use Rattle.txn_kv.specs.declared.query.PdQuery.{PdQuery}
use Rattle.txn_kv.specs.declared.reply.Reply.{Reply}
use Rattle.txn_kv.specs.declared.request.Request.{Request}
use Rattle.txn_kv.specs.declared.timestamp.Timestamp.{Timestamp}
use Rattle.txn_history.specs.Event.{Event}
use Rattle.txn_history.specs.Event.Event.{Took, Lost, Slept, Answered}
use Rattle.txn_history.specs.Later.{IsLater-refl}
use Rattle.txn_history.specs.Posted.{Posted, Within-one, Within-refl, ticket_of}
use Rattle.txn_tso.specs.Calling.{members, next_try, CallFits, HaveFailed, HaveLostMembers, IsAt, MayBe}
use Rattle.txn_tso.specs.Longer.{failed_longer, lost_longer}
use Rattle.txn_tso.specs.Placement.{not_found, request_of}
use Rattle.txn_tso.specs.Steps.{failing_try, losing_members, on_answer, on_loss, on_start, on_timestamp, on_waking, reconnected, standing, unconnected, waits, IsMembersReply, IsOnReply, IsQueryReply, Stood}
use Rattle.txn_tso.specs.declared.pd_call.PdCall.{PdCall}
use Rattle.txn_tso.specs.declared.retry_client.RetryClient.{RetryClient}
use Rattle.txn_tso.specs.declared.stage.Stage.{Stage}
use Rattle.txn_tso.specs.declared.stage.Stage.TheVariants as stage
use Rattle.txn_tso.proofs.Moving.{ends_safe, failing_try_safe, losing_members_safe, quiet_safe, reconnected_safe, tried_safe, try_of_request, Failed, HasFailed, HasLostMembers, Knowing, LostMembers, Safe}

fits_at : (s : PdCall) (g : Stage) (o : Posted) (h : List Event) → s.stage ≡ g → CallFits s o h → IsAt s.query s.failed g o h
fits_at s g o h e f = subst (λ (x : Stage). IsAt s.query s.failed x o h) e f.at

-- what was known before one more event
failed_still : (q : PdQuery) (o : Posted) (e : Event) (h : List Event) (n below : ℕ) → HaveFailed q o n below h → HaveFailed q o n below (e ∷ h)
failed_still q o e h n below f = failed_longer q h (e ∷ h) n below below (IsLater-refl o) (Within-one e h) (le_refl below) f

lost_still : (o : Posted) (e : Event) (h : List Event) (n below more : ℕ) → below ≤ more → HaveLostMembers o n below h → HaveLostMembers o n more (e ∷ h)
lost_still o e h n below more l f = lost_longer h (e ∷ h) n below more (IsLater-refl o) (Within-one e h) l f

quiet_one : (s : PdCall) (c : RetryClient) (o : Posted) (e : Event) → Safe s o (λ h. e ∷ h) (waits (standing s c o))
quiet_one s c o e = quiet_safe s c o (λ h. e ∷ h) (Within-one e)

pub start_safe : (s : PdCall) (c : RetryClient) (o : Posted) (g : Stage) → s.stage ≡ g → Safe s o (λ h. h) (on_start g (standing s c o))
start_safe s c o stage.Fresh e = tried_safe s s.failed c o (λ h. h) (λ h f. (f.few, subst (λ (n : ℕ). HaveFailed s.query o n (next_try s.query o) h) (sym (fits_at s stage.Fresh o h e f)) tt))
start_safe s c o (stage.Sent n) e = quiet_safe s c o (λ h. h) Within-refl
start_safe s c o (stage.Asked n) e = quiet_safe s c o (λ h. h) Within-refl
start_safe s c o (stage.Reconnecting n lost) e = quiet_safe s c o (λ h. h) Within-refl
start_safe s c o (stage.Resting n lost) e = quiet_safe s c o (λ h. h) Within-refl
start_safe s c o stage.Over e = quiet_safe s c o (λ h. h) Within-refl
start_safe s c o stage.Stopped e = quiet_safe s c o (λ h. h) Within-refl

-- the query that is out under this number was lost
query_lost : (s : PdCall) (o : Posted) (n : ℕ) (r : Request) → s.stage ≡ stage.Sent n → request_of s.query ≡ Some r
    → Knowing s o (λ h. Lost (ticket_of o n) r ∷ h) (HasFailed s o (GrpcAPI (ticket_of o n)))
query_lost s o n r e i h f = let a = fits_at s (stage.Sent n) o h e f in (
  n,
  (let t = try_of_request s.query r o i in let below : n < o.next = a.3 in omega arith),
  inl (r, i, inl refl, refl),
  failed_still s.query o (Lost (ticket_of o n) r) h s.failed n a.4,
)

-- the members were asked for under this number, and that was lost
members_lost : (s : PdCall) (o : Posted) (n lost : ℕ) (r : Request) → s.stage ≡ stage.Reconnecting n lost → r ≡ members
    → Knowing s o (λ h. Lost (ticket_of o n) r ∷ h) (HasLostMembers s o lost (GrpcAPI (ticket_of o n)))
members_lost s o n lost r e i h f = let a = fits_at s (stage.Reconnecting n lost) o h e f in (
  n,
  a.1,
  a.2,
  inl (ap (λ x. Lost (ticket_of o n) x) i),
  refl,
  lost_still o (Lost (ticket_of o n) r) h lost n n (le_refl n) a.3,
  (f.few, failed_still s.query o (Lost (ticket_of o n) r) h s.failed (next_try s.query o) a.4),
)

loss_if_sent : (b : Bool) (s : PdCall) (c : RetryClient) (o : Posted) (k n now : ℕ) (r : Request) → nat_eq k n ≡ b → s.stage ≡ stage.Sent k → MayBe s.query (stage.Sent k) n r
    → Safe s o (λ h. Lost (ticket_of o n) r ∷ h) (if b then failing_try (GrpcAPI (ticket_of o n)) now (standing s c o) else waits (standing s c o))
loss_if_sent true s c o k n now r t e m = let same = eqb-true k n t in
    failing_try_safe s c o (λ h. Lost (ticket_of o n) r ∷ h) now (GrpcAPI (ticket_of o n)) (query_lost s o n r (e ∙ ap (λ x. stage.Sent x) same) (m (sym same)))
loss_if_sent false s c o k n now r t e m = quiet_one s c o (Lost (ticket_of o n) r)

loss_if_reconnecting : (b : Bool) (s : PdCall) (c : RetryClient) (o : Posted) (k lost n now : ℕ) (r : Request) → nat_eq k n ≡ b → s.stage ≡ stage.Reconnecting k lost → MayBe s.query (stage.Reconnecting k lost) n r
    → Safe s o (λ h. Lost (ticket_of o n) r ∷ h) (if b then losing_members (GrpcAPI (ticket_of o n)) lost (unconnected (standing s c o)) else waits (standing s c o))
loss_if_reconnecting true s c o k lost n now r t e m = let same = eqb-true k n t in
    losing_members_safe s (record c { connecting = false }) o (λ h. Lost (ticket_of o n) r ∷ h) lost (GrpcAPI (ticket_of o n)) (members_lost s o n lost r (e ∙ ap (λ x. stage.Reconnecting x lost) same) (m (sym same)))
loss_if_reconnecting false s c o k lost n now r t e m = quiet_one s c o (Lost (ticket_of o n) r)

pub loss_safe : (s : PdCall) (c : RetryClient) (o : Posted) (n now : ℕ) (r : Request) (g : Stage) → s.stage ≡ g → MayBe s.query g n r
    → Safe s o (λ h. Lost (ticket_of o n) r ∷ h) (on_loss g n now (standing s c o))
loss_safe s c o n now r stage.Fresh e m = quiet_one s c o (Lost (ticket_of o n) r)
loss_safe s c o n now r (stage.Sent k) e m = loss_if_sent (nat_eq k n) s c o k n now r refl e m
loss_safe s c o n now r (stage.Asked k) e m = quiet_one s c o (Lost (ticket_of o n) r)
loss_safe s c o n now r (stage.Reconnecting k lost) e m = loss_if_reconnecting (nat_eq k n) s c o k lost n now r refl e m
loss_safe s c o n now r (stage.Resting k lost) e m = quiet_one s c o (Lost (ticket_of o n) r)
loss_safe s c o n now r stage.Over e m = quiet_one s c o (Lost (ticket_of o n) r)
loss_safe s c o n now r stage.Stopped e m = quiet_one s c o (Lost (ticket_of o n) r)

-- the sleep of this number has ended
rested : (s : PdCall) (o : Posted) (k n lost : ℕ) → s.stage ≡ stage.Resting k lost
    → Knowing s o (λ h. Slept (ticket_of o n) ∷ h) (λ h. Failed s.query o s.failed h × LostMembers o lost h)
rested s o k n lost e h f = let a = fits_at s (stage.Resting k lost) o h e f in (
  (f.few, failed_still s.query o (Slept (ticket_of o n)) h s.failed (next_try s.query o) a.5),
  (a.3, lost_still o (Slept (ticket_of o n)) h lost k o.next (let below : k < o.next = a.1 in omega arith) a.4),
)

waking_if : (b : Bool) (s : PdCall) (c : RetryClient) (o : Posted) (k lost n now : ℕ) → s.stage ≡ stage.Resting k lost
    → Safe s o (λ h. Slept (ticket_of o n) ∷ h) (if b then waits (reconnected lost now (standing s c o)) else waits (standing s c o))
waking_if true s c o k lost n now e = reconnected_safe s s.failed c o (λ h. Slept (ticket_of o n) ∷ h) lost now (rested s o k n lost e)
waking_if false s c o k lost n now e = quiet_one s c o (Slept (ticket_of o n))

pub waking_safe : (s : PdCall) (c : RetryClient) (o : Posted) (n now : ℕ) (g : Stage) → s.stage ≡ g
    → Safe s o (λ h. Slept (ticket_of o n) ∷ h) (on_waking g n now (standing s c o))
waking_safe s c o n now stage.Fresh e = quiet_one s c o (Slept (ticket_of o n))
waking_safe s c o n now (stage.Sent k) e = quiet_one s c o (Slept (ticket_of o n))
waking_safe s c o n now (stage.Asked k) e = quiet_one s c o (Slept (ticket_of o n))
waking_safe s c o n now (stage.Reconnecting k lost) e = quiet_one s c o (Slept (ticket_of o n))
waking_safe s c o n now (stage.Resting k lost) e = waking_if (nat_eq k n) s c o k lost n now e
waking_safe s c o n now stage.Over e = quiet_one s c o (Slept (ticket_of o n))
waking_safe s c o n now stage.Stopped e = quiet_one s c o (Slept (ticket_of o n))

timestamp_safe : (told : Result Timestamp Error) (s : PdCall) (c : RetryClient) (o : Posted) (n now : ℕ) → s.stage ≡ stage.Asked n
    → Safe s o (λ h. Answered (ticket_of o n) told ∷ h) (on_timestamp told now (standing s c o))
timestamp_safe (Ok t) s c o n now e = ends_safe s c o (λ h. Answered (ticket_of o n) (Ok t) ∷ h) (Ok (answer.Time t)) (λ h f. let a = fits_at s (stage.Asked n) o h e f in
    inr (n, t, a.0, inl refl, refl))
timestamp_safe (Err why) s c o n now e = failing_try_safe s c o (λ h. Answered (ticket_of o n) (Err why) ∷ h) now why (λ h f. let a = fits_at s (stage.Asked n) o h e f in (
  n,
  (let t = ap (λ q. next_try q o) a.0 in let below : n < o.next_ask = a.2 in omega arith),
  inr (inr (a.0, inl refl)),
  failed_still s.query o (Answered (ticket_of o n) (Err why)) h s.failed n a.3,
))

answer_if : (b : Bool) (s : PdCall) (c : RetryClient) (o : Posted) (k n now : ℕ) (told : Result Timestamp Error) → nat_eq k n ≡ b → s.stage ≡ stage.Asked k
    → Safe s o (λ h. Answered (ticket_of o n) told ∷ h) (if b then on_timestamp told now (standing s c o) else waits (standing s c o))
answer_if true s c o k n now told t e = timestamp_safe told s c o n now (e ∙ ap (λ x. stage.Asked x) (eqb-true k n t))
answer_if false s c o k n now told t e = quiet_one s c o (Answered (ticket_of o n) told)

pub answer_safe : (s : PdCall) (c : RetryClient) (o : Posted) (n now : ℕ) (told : Result Timestamp Error) (g : Stage) → s.stage ≡ g
    → Safe s o (λ h. Answered (ticket_of o n) told ∷ h) (on_answer g n told now (standing s c o))
answer_safe s c o n now told stage.Fresh e = quiet_one s c o (Answered (ticket_of o n) told)
answer_safe s c o n now told (stage.Sent k) e = quiet_one s c o (Answered (ticket_of o n) told)
answer_safe s c o n now told (stage.Asked k) e = answer_if (nat_eq k n) s c o k n now told refl e
answer_safe s c o n now told (stage.Reconnecting k lost) e = quiet_one s c o (Answered (ticket_of o n) told)
answer_safe s c o n now told (stage.Resting k lost) e = quiet_one s c o (Answered (ticket_of o n) told)
answer_safe s c o n now told stage.Over e = quiet_one s c o (Answered (ticket_of o n) told)
answer_safe s c o n now told stage.Stopped e = quiet_one s c o (Answered (ticket_of o n) told)

-- the reply to the query came
query_reply_safe : (s : PdCall) (c : RetryClient) (o : Posted) (n now : ℕ) (r : Request) (x : Reply) (st : Stood) → s.stage ≡ stage.Sent n → request_of s.query ≡ Some r
    → IsQueryReply x now (standing s c o) st → Safe s o (λ h. Took (ticket_of o n) r x ∷ h) st
query_reply_safe s c o n now r x st e i (inl m) = subst (Safe s o (λ h. Took (ticket_of o n) r x ∷ h)) (sym m.2)
    (ends_safe s c o (λ h. Took (ticket_of o n) r x ∷ h) (Ok m.0) (λ h f. inl (n, r, x, i, inl refl, m.1)))
query_reply_safe s c o n now r x st e i (inr (inl m)) = subst (Safe s o (λ h. Took (ticket_of o n) r x ∷ h)) (sym m.1)
    (failing_try_safe s c o (λ h. Took (ticket_of o n) r x ∷ h) now (not_found s.query) (λ h f. let a = fits_at s (stage.Sent n) o h e f in (
      n,
      (let t = try_of_request s.query r o i in let below : n < o.next = a.3 in omega arith),
      inr (inl (r, x, i, inl refl, m.0, refl)),
      failed_still s.query o (Took (ticket_of o n) r x) h s.failed n a.4,
    )))
query_reply_safe s c o n now r x st e i (inr (inr m)) = subst (Safe s o (λ h. Took (ticket_of o n) r x ∷ h)) (sym m.1)
    (ends_safe s c o (λ h. Took (ticket_of o n) r x ∷ h) (Err (InternalError WrongReply)) (λ h f. inr (inr (n, r, x, inl refl, inl (i, m.0), refl))))

-- the reply to the request for the members came
members_reply_safe : (s : PdCall) (c : RetryClient) (o : Posted) (n lost now : ℕ) (r : Request) (x : Reply) (st : Stood) → s.stage ≡ stage.Reconnecting n lost → r ≡ members
    → IsMembersReply x now (standing s c o) st → Safe s o (λ h. Took (ticket_of o n) r x ∷ h) st
members_reply_safe s c o n lost now r x st e i (inl m) = subst (Safe s o (λ h. Took (ticket_of o n) r x ∷ h)) (sym m.2)
    (tried_safe s s.failed (record c { last_connected = now; connecting = false }) o (λ h. Took (ticket_of o n) r x ∷ h) (λ h f. let a = fits_at s (stage.Reconnecting n lost) o h e f in
    (f.few, failed_still s.query o (Took (ticket_of o n) r x) h s.failed (next_try s.query o) a.4)))
members_reply_safe s c o n lost now r x st e i (inr m) = subst (Safe s o (λ h. Took (ticket_of o n) r x ∷ h)) (sym m.1)
    (ends_safe s (record c { connecting = false }) o (λ h. Took (ticket_of o n) r x ∷ h) (Err (InternalError WrongReply)) (λ h f. inr (inr (n, r, x, inl refl, inr (i, m.0), refl))))

reply_if_sent : (b : Bool) (s : PdCall) (c : RetryClient) (o : Posted) (k n now : ℕ) (r : Request) (x : Reply) (st : Stood) → nat_eq k n ≡ b → s.stage ≡ stage.Sent k → MayBe s.query (stage.Sent k) n r
    → MatchBool b (IsQueryReply x now (standing s c o) st) (st ≡ waits (standing s c o)) → Safe s o (λ h. Took (ticket_of o n) r x ∷ h) st
reply_if_sent true s c o k n now r x st t e m i = let same = eqb-true k n t in query_reply_safe s c o n now r x st (e ∙ ap (λ y. stage.Sent y) same) (m (sym same)) i
reply_if_sent false s c o k n now r x st t e m i = subst (Safe s o (λ h. Took (ticket_of o n) r x ∷ h)) (sym i) (quiet_one s c o (Took (ticket_of o n) r x))

reply_if_reconnecting : (b : Bool) (s : PdCall) (c : RetryClient) (o : Posted) (k lost n now : ℕ) (r : Request) (x : Reply) (st : Stood) → nat_eq k n ≡ b → s.stage ≡ stage.Reconnecting k lost → MayBe s.query (stage.Reconnecting k lost) n r
    → MatchBool b (IsMembersReply x now (standing s c o) st) (st ≡ waits (standing s c o)) → Safe s o (λ h. Took (ticket_of o n) r x ∷ h) st
reply_if_reconnecting true s c o k lost n now r x st t e m i = let same = eqb-true k n t in members_reply_safe s c o n lost now r x st (e ∙ ap (λ y. stage.Reconnecting y lost) same) (m (sym same)) i
reply_if_reconnecting false s c o k lost n now r x st t e m i = subst (Safe s o (λ h. Took (ticket_of o n) r x ∷ h)) (sym i) (quiet_one s c o (Took (ticket_of o n) r x))

quiet_reply : (s : PdCall) (c : RetryClient) (o : Posted) (n : ℕ) (r : Request) (x : Reply) (st : Stood) → st ≡ waits (standing s c o) → Safe s o (λ h. Took (ticket_of o n) r x ∷ h) st
quiet_reply s c o n r x st i = subst (Safe s o (λ h. Took (ticket_of o n) r x ∷ h)) (sym i) (quiet_one s c o (Took (ticket_of o n) r x))

pub reply_safe : (s : PdCall) (c : RetryClient) (o : Posted) (n now : ℕ) (r : Request) (x : Reply) (st : Stood) (g : Stage) → s.stage ≡ g → MayBe s.query g n r
    → IsOnReply g n x now (standing s c o) st → Safe s o (λ h. Took (ticket_of o n) r x ∷ h) st
reply_safe s c o n now r x st stage.Fresh e m i = quiet_reply s c o n r x st i
reply_safe s c o n now r x st (stage.Sent k) e m i = reply_if_sent (nat_eq k n) s c o k n now r x st refl e m i
reply_safe s c o n now r x st (stage.Asked k) e m i = quiet_reply s c o n r x st i
reply_safe s c o n now r x st (stage.Reconnecting k lost) e m i = reply_if_reconnecting (nat_eq k n) s c o k lost n now r x st refl e m i
reply_safe s c o n now r x st (stage.Resting k lost) e m i = quiet_reply s c o n r x st i
reply_safe s c o n now r x st stage.Over e m i = quiet_reply s c o n r x st i
reply_safe s c o n now r x st stage.Stopped e m i = quiet_reply s c o n r x st i
