-- What clients can have arisen from: the history that a run shows, with the newest event first.
use Rattle.std.specs.Prelude.{⊤, ℕ, List, [], ◌∷◌, Option}
use Rattle.std.specs.List.{All}
use Rattle.txn_kv.specs.declared.request.Request.{Request}
use Rattle.txn_kv.specs.declared.request.Request.TheVariants as requests
use Rattle.txn_kv.specs.declared.ticket.Ticket.{Ticket}
use Rattle.txn_history.specs.Event.{Event}
use Rattle.txn_history.specs.Event.Event.{Answered, Asked, Began, Sent, Slept}
use Rattle.txn_law.specs.Run.{IsPossible}
use Rattle.txn_report.specs.declared.outcome.Outcome.{Outcome}
use Rattle.txn_side.specs.Doubt.{CallOf, itself}
use Rattle.txn_side.specs.Saying.{SpeaksOf}
use Rattle.txn_side.specs.Sight.{Sight, Stand, stand_at}
use Rattle.txn_side.specs.Sight.Stand.{Calling}
use Rattle.txn_side.specs.Trace.{ended_in}
use Rattle.txn_side.specs.Waiting.{posted_in}
use Rattle.txn_side.specs.declared.turn.Ending.{Ending}
use Rattle.txn_side.specs.declared.turn.Posting.{Posting}
use Rattle.txn_side.specs.declared.turn.Posting.TheVariants.{Send, Sleep}
use Rattle.txn_side.specs.declared.turn.Turn.{Turn}

-- What a run shows

-- what is neither sent, slept nor asked for by clients, nor what an ask is answered
abbrev pub IsOutside : Event → Type 0
IsOutside (Sent t r) = ⊥
IsOutside (Began t ms) = ⊥
IsOutside (Asked a) = ⊥
IsOutside (Answered a x) = ⊥
IsOutside _ = ⊤

-- What a heartbeat sends: heartbeats, and what it asks the placement driver for. None writes, locks, settles or moves the safepoint.
abbrev pub IsBeat : Request → Type 0
IsBeat (requests.TxnHeartBeat r) = ⊤
IsBeat (requests.GetRegion r) = ⊤
IsBeat (requests.GetRegionById r) = ⊤
IsBeat (requests.GetStore r) = ⊤
IsBeat (requests.GetAllStores r) = ⊤
IsBeat (requests.Members r) = ⊤
IsBeat r = ⊥

-- of what is posted the requests are shown, and not the sleeps
abbrev pub with_posting : Posting → List Event → List Event
with_posting (Send t to r askers) h = Sent t r ∷ h
with_posting (Sleep t) h = h

-- in the order in which it was posted
abbrev pub with_postings : List Posting → List Event → List Event
with_postings [] h = h
with_postings (p ∷ ps) h = with_postings ps (with_posting p h)

-- What a step makes of it

-- where it stands of what a line's call answers: at the line of its transaction, if it has one
abbrev pub answered_at : ℕ → Stand → CallOf
answered_at n (Calling c x b) = record { at = x; commits = b }
answered_at n _ = itself n

-- The clients can have arisen from the history after a step. What was right of what stands at a line still is, and so is what the calls
-- answered that ended in it, which says rightly what it says of its transaction then.
pub record Arises (arises : List Event → Type 0) (holds : List Event → ℕ → Outcome → Type 0) (held : ℕ → Outcome → Type 0) (at : ℕ → CallOf) (h : List Event) (ended : List Ending) : Type 0 where
  pub now : arises h
  pub kept : (x : ℕ) (o : Outcome) → held x o → holds h x o
  pub answers : All (λ e. holds h (at e.line).at e.outcome) ended
  pub says : All (λ e. SpeaksOf held h (at e.line) e.line e.outcome) ended

-- nothing has happened
abbrev pub StillArises : (List Event → Type 0) → (List Event → Type 0) → (List Event → ℕ → Outcome → Type 0) → (List Event → ℕ → Outcome → Type 0) → Type 0
StillArises was is held holds = (h : List Event) → was h → Arises is holds (held h) itself h []

-- a line has called, and posted so much
abbrev pub ArisesOn : (List Event → Type 0) → (List Event → Type 0) → (List Event → ℕ → Outcome → Type 0) → (List Event → ℕ → Outcome → Type 0) → (ℕ → CallOf) → Option Turn → Type 0
ArisesOn was is held holds at turn = (h : List Event) → was h → Arises is holds (held h) at (with_postings (posted_in turn) h) (ended_in turn)

-- this came of the request of a ticket, and then so much was posted
abbrev pub ArisesHearing : (List Event → Type 0) → (List Event → Type 0) → (List Event → ℕ → Outcome → Type 0) → (List Event → ℕ → Outcome → Type 0) → Sight → (Request → Event) → Turn → Type 0
ArisesHearing was is held holds s event turn = (h : List Event) (r : Request) → IsPossible h (event r) → was h → Arises is holds (held h) (λ n. answered_at n (stand_at s.stands n)) (with_postings turn.posted.items (event r ∷ h)) turn.ended.items

-- or a sleep has ended
abbrev pub ArisesAwake : (List Event → Type 0) → (List Event → Type 0) → (List Event → ℕ → Outcome → Type 0) → (List Event → ℕ → Outcome → Type 0) → Sight → Ticket → Turn → Type 0
ArisesAwake was is held holds s t turn = (h : List Event) → was h → Arises is holds (held h) (λ n. answered_at n (stand_at s.stands n)) (with_postings turn.posted.items (Slept t ∷ h)) turn.ended.items
