-- What a contract sees of a call state, whatever the state is made of, and what each event call of every state keeps to.
use Rattle.std.specs.Prelude.{◌≡◌, ◌⊎◌, ⊤, ℕ, ◌<◌, ◌≤◌, ◌++◌, Bool, List, ◌∷◌, Result}
use Rattle.txn_kv.specs.declared.errors.Error.{Error}
use Rattle.txn_kv.specs.declared.request.Request.{Request}
use Rattle.std.proofs.Math.Nat.{le_trans}
use Rattle.txn_kv.specs.declared.reply.Reply.{Reply}
use Rattle.txn_kv.specs.declared.ticket.Ticket.{Ticket}
use Rattle.txn_kv.specs.declared.timestamp.Timestamp.{Timestamp}
use Rattle.txn_history.specs.Event.{Event, Has}
use Rattle.txn_history.specs.Event.Event.{Sent, Took, Lost, Began, Slept, Asked, Answered}
use Rattle.txn_history.specs.Later.{IsLater, IsLater-ticket}
use Rattle.txn_history.specs.Moves.{Moves, SameJob}
use Rattle.txn_history.specs.Phase.{Phase, Awaited, phase_after, unheard, IsPosted}
use Rattle.txn_history.specs.Phase.Awaited.{ReplyTo, EndOf, TimeOf}
use Rattle.txn_history.specs.Phase.Phase.{Fresh, Running}
use Rattle.txn_history.specs.Posted.{Errand, Posted, ticket_of, Within, Within-one, Within-refl}
use Rattle.txn_history.specs.Spends.{Spends}
use Rattle.txn_history.specs.Turn.{HasEnded, Turn, failing, is_kept}
use Rattle.txn_history.specs.Turn.Turn.{Waits}

-- A state of type S, whose answer, a value or an error, is an A.
pub record Meaning (S A : Type 0) : Type 1 where
  -- The state can have arisen from the history, where its line has posted so much. A state knows the numbers that it waits
  -- for, and the outbox the line that they are of.
  pub fits : S → Posted → List Event → Type 0
  -- after the history the request may be sent
  pub asks : S → List Event → Request → Type 0
  -- the answer stands on the history
  pub gives : S → List Event → A → Type 0
  -- where it stands, and what it waits for
  pub phase : S → Phase
  pub waits : S → Awaited → Type 0
  -- it may be called: what its code rests on, as that a request's store is set. Every call keeps it.
  pub ready : S → Type 0
  -- The most requests to stores and asks that a fresh copy posts, and that the state still posts, where no error and no
  -- lock comes and no request is cut into more than n parts. `width` is the greatest number of parts so far.
  pub round : S → ℕ → ℕ
  pub left : S → ℕ → ℕ
  pub width : S → ℕ
  -- its numbers are in order, where the locks that it was given so far weigh at most so much
  pub bears : S → ℕ → Type 0
  -- the answer is one that a new run may better
  pub fails : A → Bool

-- what is waited for was posted by this line
abbrev pub WasPosted : Posted → List Event → Awaited → Type 0
WasPosted o h (ReplyTo n) = (r : Request) × Has h (Sent (ticket_of o n) r) × (n < o.next)
WasPosted o h (EndOf n) = (ms : ℕ) × Has h (Began (ticket_of o n) ms) × (n < o.next)
WasPosted o h (TimeOf n) = Has h (Asked (ticket_of o n)) × (n < o.next_ask)

-- What holds of every state. The first three say that more events, more errands and heavier locks do no harm.
pub record IsLawful {S A : Type 0} (m : Meaning S A) : Type 0 where
  pub fits_longer : (s : S) (o p : Posted) (h longer : List Event) → IsLater o p → Within h longer → m.fits s o h → m.fits s p longer
  pub gives_longer : (s : S) (h longer : List Event) (v : A) → Within h longer → m.gives s h v → m.gives s longer v
  pub bears_more : (s : S) (w more : ℕ) → w ≤ more → m.bears s w → m.bears s more
  -- a state waits for something exactly while it runs
  pub runs : (s : S) (a : Awaited) → m.waits s a → m.phase s ≡ Running
  pub waits : (s : S) (o : Posted) (h : List Event) → m.fits s o h → m.phase s ≡ Running → (a : Awaited) × m.waits s a
  pub posted : (s : S) (o : Posted) (h : List Event) (a : Awaited) → m.fits s o h → m.waits s a → WasPosted o h a

-- a state that was not started, whatever happened before
pub record IsUnbegun {S A : Type 0} (m : Meaning S A) (s : S) : Type 0 where
  pub phase : m.phase s ≡ Fresh
  pub fits : (o : Posted) (h : List Event) → m.fits s o h
  pub whole : (n : ℕ) → m.left s n ≤ m.round s n
  pub light : (w : ℕ) → m.bears s w

-- the request, and no other, was sent with the ticket
pub record IsSent (t : Ticket) (r : Request) (h : List Event) : Type 0 where
  pub sent : Has h (Sent t r)
  pub alone : (q : Request) → Has h (Sent t q) → q ≡ r

-- What a call of a state tells it.
pub record Told : Type 1 where
  -- what is known of the history before
  pub known : List Event → Type 0
  -- the history once it is told
  pub hear : List Event → List Event
  pub within : (h : List Event) → Within h (hear h)
  -- what the state is then no longer to wait for
  pub heard : Awaited → Type 0

-- nothing, but that so much is known
abbrev pub further : (List Event → Type 0) → Told
further known = record { known = known; hear = λ h. h; within = Within-refl; heard = λ a. ⊥ }

abbrev pub started : Told
started = further (λ h. ⊤)

-- the reply to the request was taken, and no other request was sent with the ticket
abbrev pub replied : Ticket → Request → Reply → Told
replied t r x = record { known = IsSent t r; hear = λ h. Took t r x ∷ h; within = Within-one (Took t r x); heard = λ a. a ≡ ReplyTo t.number }

abbrev pub missed : Ticket → Request → Told
missed t r = record { known = IsSent t r; hear = λ h. Lost t r ∷ h; within = Within-one (Lost t r); heard = λ a. a ≡ ReplyTo t.number }

abbrev pub woken : Ticket → Told
woken t = record { known = λ h. ⊤; hear = λ h. Slept t ∷ h; within = Within-one (Slept t); heard = λ a. a ≡ EndOf t.number }

-- an ask was answered, with a timestamp or with why there is none
abbrev pub timed : Ticket → Result Timestamp Error → Told
timed t x = record { known = λ h. ⊤; hear = λ h. Answered t x ∷ h; within = Within-one (Answered t x); heard = λ a. a ≡ TimeOf t.number }

-- A state waits for what it waited for, without what it heard, and for what it posts.
pub record Expects (was is heard : Awaited → Type 0) (from to : Posted) : Type 0 where
  pub sends : List Errand
  pub pushed : to.sends ≡ from.sends ++ sends
  pub only : (a : Awaited) → is a → (was a × (heard a → ⊥)) ⊎ IsPosted sends a

-- The first of three clauses of an event call: what it posts and answers, over each history from which the state can have
-- arisen.
pub record Tells {S A : Type 0} (m : Meaning S A) (told : Told) (old new : S) (from to : Posted) (turn : Turn A) : Type 0 where
  pub moves : Moves (m.asks old) (λ h. m.fits old from h × told.known h) (m.fits new to) (m.gives old) told.hear from to turn
  pub job : SameJob m.asks m.gives new old
  pub expects : Expects (m.waits old) (m.waits new) told.heard from to

-- The second: where it stands then. A call that is not `meant` for the state changes nothing: the state did not wait for it,
-- or was started before.
pub record Goes {S A C : Type 0} (phase : S → Phase) (meant : Type 0)
    (old new : S) (from to : Posted) (pd pd' : C) (turn : Turn A) : Type 0 where
  pub deaf : (meant → ⊥) → turn ≡ unheard (phase old)
  pub state : (meant → ⊥) → new ≡ old
  pub outbox : (meant → ⊥) → to ≡ from
  pub client : (meant → ⊥) → pd' ≡ pd
  pub next : meant → phase new ≡ phase_after turn

-- The like of a function of a state that goes on after a call of a state inside, which ended so.
pub record GoesOn {S A B C : Type 0} (phase : S → Phase) (inner : Turn A)
    (old new : S) (from to : Posted) (pd pd' : C) (turn : Turn B) : Type 0 where
  pub deaf : inner ≡ Waits → turn ≡ Waits
  pub state : inner ≡ Waits → new ≡ old
  pub outbox : inner ≡ Waits → to ≡ from
  pub client : inner ≡ Waits → pd' ≡ pd
  pub next : HasEnded inner → phase new ≡ phase_after turn

-- The third: what it posts and has left to post. It is told of an error where `bad`, and of one that a new run may better
-- where `fails`; of locks of this weight, where `locked` is one.
pub record Counts {S A : Type 0} (m : Meaning S A) (bad fails : Bool) (weight locked : ℕ)
    (old new : S) (from to : Posted) (turn : Turn A) : Type 0 where
  pub spends : Spends (m.bears old) (m.bears new) (m.left old) (m.left new) (m.round old) bad fails weight locked (m.width old) (m.width new) from to (is_kept turn) (failing m.fails turn)
  pub fewer : (n : ℕ) → m.round new n ≤ m.round old n

-- lemmas

pub WasPosted-longer : {o later : Posted} (h longer : List Event) (a : Awaited) → IsLater o later → Within h longer → WasPosted o h a → WasPosted later longer a
WasPosted-longer h longer (ReplyTo n) l w p = (p.0, rw (IsLater-ticket l n) (w _ p.1), le_trans p.2 l.next)
WasPosted-longer h longer (EndOf n) l w p = (p.0, rw (IsLater-ticket l n) (w _ p.1), le_trans p.2 l.next)
WasPosted-longer h longer (TimeOf n) l w p = (rw (IsLater-ticket l n) (w _ p.0), le_trans p.1 l.next_ask)
