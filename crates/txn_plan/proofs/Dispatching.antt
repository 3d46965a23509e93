-- The calls of a dispatch, over the histories from which it can have arisen.
use Rattle.std.proofs.Common.{◌≡◌, ◌≢◌, ◌⊎◌, inl, inr, ℕ, ◌<◌, true, List, [], ◌∷◌, refl, sym, arith}
use Rattle.std.proofs.Math.Nat.{le_refl}
use Rattle.std.proofs.lemmas.Bool.{false≢true}
use Rattle.std.specs.Prelude.{IsSome, MatchResult, Result, Ok, Err}
use Rattle.txn_kv.specs.declared.errors.Error.{Error}
use Rattle.txn_kv.specs.declared.errors.Error.TheVariants.{GrpcAPI}
use Rattle.txn_kv.specs.declared.outbox.Errand.TheVariants.{Send}
use Rattle.txn_kv.specs.declared.reply.Reply.{Reply as Response}
use Rattle.txn_kv.specs.declared.request.Request.{Request}
use Rattle.txn_kv.specs.declared.ticket.Target.TheVariants.{Store}
use Rattle.txn_kv.specs.declared.ticket.Ticket.{Ticket}
use Rattle.txn_history.specs.Event.{Event}
use Rattle.txn_history.specs.Event.Event.{Sent, Took}
use Rattle.txn_history.specs.Faults.{has_region_error, may_better}
use Rattle.txn_history.specs.Moves.{SameJob}
use Rattle.txn_history.specs.Phase.{unheard, Awaited, IsPosted}
use Rattle.txn_history.specs.Phase.Phase.{Fresh}
use Rattle.txn_history.specs.Phase.Awaited.{ReplyTo, EndOf, TimeOf}
use Rattle.txn_history.specs.Posted.{HasNumbers, Posted, ticket_of}
use Rattle.txn_history.specs.Turn.{Turn}
use Rattle.txn_history.specs.Turn.Turn.{Stopped, Waits, Ends}
use Rattle.txn_history.proofs.Telling.{Tells-quiet, Tells-sent}
use Rattle.txn_history.specs.Steps.{begins, Steps}
use Rattle.txn_history.proofs.Stepping.{Counts-quiet, Counts-sent, Goes-meant, Steps-idle}
use Rattle.txn_history.proofs.Arriving.{Steps-deaf}
use Rattle.txn_history.specs.Arrivals.{arrives, awaited_as}
use Rattle.txn_kv.specs.declared.arrival.Arrival.{Arrival}
use Rattle.txn_kv.specs.declared.arrival.Arrival.TheVariants.{Lost, Reply}
use Rattle.txn_plan.specs.Dispatch.{dispatch, dispatch-lawful, stage_phase, stage_waits, IsAt, IsReplied, IsSentOnce, IsUnsent}
use Rattle.txn_plan.specs.declared.dispatch.Dispatch.{Dispatch}
use Rattle.txn_plan.specs.declared.stage.Stage.{Stage}
use Rattle.txn_plan.specs.declared.stage.Stage.TheVariants as stage
use Rattle.txn_request.specs.Defaults.{wrong_reply}

only_fresh : (g : Stage) → stage_phase g ≡ Fresh → g ≡ stage.Fresh
only_fresh stage.Fresh e = refl
only_fresh (stage.Sent n) e = cc
only_fresh stage.Over e = cc
only_fresh stage.Stopped e = cc

-- what it waits for

only_reply : (g : Stage) (n : ℕ) → stage_waits g (ReplyTo n) → g ≡ stage.Sent n
only_reply stage.Fresh n w = absurd w
only_reply (stage.Sent k) n w = cc
only_reply stage.Over n w = absurd w
only_reply stage.Stopped n w = absurd w

-- arrivals that are not for it

pub not_reply : (g : Stage) (n : ℕ) → (g ≡ stage.Sent n → ⊥) → stage_waits g (ReplyTo n) → ⊥
not_reply g n other w = other (only_reply g n w)

pub not_sleep : (g : Stage) (n : ℕ) → stage_waits g (EndOf n) → ⊥
not_sleep stage.Fresh n w = w
not_sleep (stage.Sent k) n w = cc
not_sleep stage.Over n w = w
not_sleep stage.Stopped n w = w

pub not_ask : (g : Stage) (n : ℕ) → stage_waits g (TimeOf n) → ⊥
not_ask stage.Fresh n w = w
not_ask (stage.Sent k) n w = cc
not_ask stage.Over n w = w
not_ask stage.Stopped n w = w

-- it stays as it is
pub deaf : {R V C : Type 0} (request_of : R → Request) (reply_of : V → Response) (a : Arrival) {s : Dispatch R V} {o : Posted} {pd : C} {turn : Turn (Result V Error)}
    → IsSome s.store → HasNumbers o
    → (stage_waits s.stage (awaited_as a) → ⊥)
    → turn ≡ unheard (stage_phase s.stage)
    → Steps (dispatch request_of reply_of) (λ told from old new pd pd'. pd' ≡ pd) (arrives a o) s s o o pd pd turn
deaf request_of reply_of a ready numbers other e = Steps-deaf a (dispatch-lawful request_of reply_of) other e (λ r. refl) ready numbers

pub started_before : {R V C : Type 0} (request_of : R → Request) (reply_of : V → Response) {s : Dispatch R V} {o : Posted} {pd : C} {turn : Turn (Result V Error)}
    → IsSome s.store → HasNumbers o
    → s.stage ≢ stage.Fresh
    → turn ≡ unheard (stage_phase s.stage)
    → Steps (dispatch request_of reply_of) (λ told from old new pd pd'. pd' ≡ pd) begins s s o o pd pd turn
unfolding begins
started_before request_of reply_of {s = s} ready numbers other e = Steps-idle (dispatch-lawful request_of reply_of) (λ p. other (only_fresh s.stage p)) (λ r a heard w. heard) e (λ r. refl) ready numbers

-- calls that are

same_job : {R V : Type 0} (request_of : R → Request) (reply_of : V → Response) (old : Dispatch R V) (g : Stage)
    → (IsUnsent g → ⊥)
    → SameJob (dispatch request_of reply_of).asks (dispatch request_of reply_of).gives (record old { stage = g }) old
same_job request_of reply_of old g gone = record { asked = λ h r x. absurd (gone x.0); given = λ h v x. x; gave = λ h v x. x }

-- the reply's content is the answer, or it is of another kind
read : {V : Type 0} (reply_of : V → Response) (r q : Request) (t : Ticket) (x : Response) (v : Result V Error) (h : List Event) → r ≡ q
    → MatchResult v (λ a. x ≡ reply_of a) (λ e. (e ≡ wrong_reply) × ((a : V) → x ≢ reply_of a))
    → IsReplied reply_of r (Took t q x ∷ h) v
read reply_of r q t x (Ok a) h e m = (t, inl (cc (e, m)))
read reply_of r q t x (Err w) h e m = inr (t, x, inl (cc e), m.1, m.0)

-- an answer that a new run may better is of a reply that refuses for the region
fails_by : {V : Type 0} (reply_of : V → Response) (x : Response) (v : Result V Error)
    → MatchResult v (λ a. x ≡ reply_of a) (λ e. (e ≡ wrong_reply) × ((a : V) → x ≢ reply_of a))
    → may_better reply_of v ≡ true → has_region_error x ≡ true
fails_by reply_of x (Ok a) m f = rw m f
fails_by reply_of x (Err e) m f = absurd (false≢true (rw m.0 at f))

pub take_reply : {R V C : Type 0} (request_of : R → Request) (reply_of : V → Response) {old : Dispatch R V} {o : Posted} {pd : C} (n : ℕ) (x : Response) (v : Result V Error)
    → IsSome old.store → HasNumbers o
    → old.stage ≡ stage.Sent n
    → MatchResult v (λ a. x ≡ reply_of a) (λ e. (e ≡ wrong_reply) × ((a : V) → x ≢ reply_of a))
    → Steps (dispatch request_of reply_of) (λ told from old new pd pd'. pd' ≡ pd) (arrives (Reply n x) o) old (record old { stage = stage.Over }) o o pd pd (Ends v)
unfolding arrives
take_reply request_of reply_of {old = old} {o = o} n x v ready numbers e m = record {
  tells = λ q. Tells-quiet
      (λ h f. tt)
      (λ h f. read reply_of (request_of old.request) q (ticket_of o n) x v h (f.1.alone _ ((rw e at f.0).0)) m)
      (same_job request_of reply_of old stage.Over (λ u. u))
      (λ a w. absurd w);
  goes = Goes-meant (rw e refl) refl;
  counts = Counts-quiet refl (λ w b. tt) (λ k. omega arith) (λ k. le_refl 1) (fails_by reply_of x v m);
  client = λ r. refl;
  ready = ready;
  numbers = numbers;
}

pub lose : {R V C : Type 0} (request_of : R → Request) (reply_of : V → Response) {old : Dispatch R V} {o : Posted} {pd : C} (n : ℕ)
    → IsSome old.store → HasNumbers o
    → old.stage ≡ stage.Sent n
    → Steps (dispatch request_of reply_of) (λ told from old new pd pd'. pd' ≡ pd) (arrives (Lost n) o) old (record old { stage = stage.Over }) o o pd pd (Ends (Err (GrpcAPI (ticket_of o n))))
unfolding arrives
lose request_of reply_of {old = old} {o = o} n ready numbers e = record {
  tells = λ q. Tells-quiet
      (λ h f. tt)
      (λ h f. inl (ticket_of o n, inl (let same = f.1.alone _ ((rw e at f.0).0) in cc), refl))
      (same_job request_of reply_of old stage.Over (λ u. u))
      (λ a w. absurd w);
  goes = Goes-meant (rw e refl) refl;
  counts = Counts-quiet refl (λ w b. tt) (λ k. omega arith) (λ k. le_refl 1) (λ f. refl);
  client = λ r. refl;
  ready = ready;
  numbers = numbers;
}

-- its request goes out

may_wait : (old g : Stage) (n store : ℕ) (r : Request) → g ≡ stage.Sent n → (a : Awaited) → stage_waits g a → (stage_waits old a × (⊥ → ⊥)) ⊎ IsPosted (Send n (Store store) r ∷ []) a
may_wait old g n store r e a w = inr (Send n (Store store) r, inl refl, sym (rw e at w))

is_at : (r : Request) (g : Stage) (n : ℕ) (o : Posted) (h : List Event) → g ≡ stage.Sent n → n < o.next → IsAt r g o (Sent (ticket_of o n) r ∷ h)
is_at r g n o h e l = rw e (inl refl, l)

gone : (g : Stage) (n : ℕ) → g ≡ stage.Sent n → IsUnsent g → ⊥
gone g n e u = rw e at u

pub send : {R V C : Type 0} (request_of : R → Request) (reply_of : V → Response) {old new : Dispatch R V} {o p : Posted} {pd : C} (store : ℕ)
    → IsSome old.store → HasNumbers p
    → old.stage ≡ stage.Fresh
    → new ≡ record old { stage = new.stage }
    → IsSentOnce (request_of old.request) store new.stage o p
    → Steps (dispatch request_of reply_of) (λ told from old new pd pd'. pd' ≡ pd) begins old new o p pd pd Waits
unfolding begins
send request_of reply_of {old = old} {new = new} {o = o} store ready numbers g e i = rw e (record {
  tells = λ r. Tells-sent (Store store) (request_of old.request) i.1
      (λ h f. (rw g tt, refl))
      (λ h f. rw i.1 (is_at (request_of old.request) new.stage o.next _ h i.0 (omega arith)))
      (same_job request_of reply_of old new.stage (gone new.stage o.next i.0))
      (may_wait old.stage new.stage o.next store (request_of old.request) i.0);
  goes = Goes-meant (rw g refl) (rw i.0 refl);
  counts = Counts-sent store (request_of old.request) i.1 refl (λ w b. tt) (λ k. rw (i.0, g) (le_refl 1)) (λ k. le_refl 1);
  client = λ r. refl;
  ready = ready;
  numbers = numbers;
})

pub give_up : {R V C : Type 0} (request_of : R → Request) (reply_of : V → Response) {old new : Dispatch R V} {o p : Posted} {pd : C} {turn : Turn (Result V Error)}
    → IsSome old.store → HasNumbers o
    → old.stage ≡ stage.Fresh
    → new ≡ record old { stage = new.stage }
    → (new.stage ≡ stage.Stopped) × (p ≡ o)
    → turn ≡ Stopped
    → Steps (dispatch request_of reply_of) (λ told from old new pd pd'. pd' ≡ pd) begins old new o p pd pd turn
unfolding begins
give_up request_of reply_of {old = old} {new = new} ready numbers g e i t = rw (t, i.1, e, i.0) (record {
  tells = λ r. Tells-quiet tt tt (same_job request_of reply_of old stage.Stopped (λ u. u)) (λ a w. absurd w);
  goes = Goes-meant (rw g refl) refl;
  counts = Counts-quiet refl (λ w b. tt) (λ k. omega arith) (λ k. le_refl 1) (λ f. absurd (false≢true f));
  client = λ r. refl;
  ready = ready;
  numbers = numbers;
})
