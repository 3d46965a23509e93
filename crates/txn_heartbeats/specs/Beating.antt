-- What the heartbeat of a line posts, and the numbers of what heartbeats post next.
use Rattle.std.specs.Prelude.{◌≡◌, ◌++◌, ◌<◌, ◌≤◌, ⊤, ℕ, true, List, [], ◌∷◌, length}
use Rattle.txn_history.specs.Event.{Event, Has}
use Rattle.txn_history.specs.Event.Event.{Sent}
use Rattle.txn_history.specs.Posted.{Errand}
use Rattle.txn_kv.specs.declared.outbox.Errand.TheVariants as errands
use Rattle.txn_kv.specs.declared.request.Request.{Request}
use Rattle.txn_kv.specs.declared.ticket.Ticket.{Ticket}
use Rattle.txn_side.specs.Arising.{IsBeat}
use Rattle.txn_side.specs.Sight.{Sight, next_at, ticket_in, with_next}
use Rattle.txn_side.specs.declared.turn.Posting.{Posting}
use Rattle.txn_side.specs.declared.turn.Posting.TheVariants.{Send, Sleep}

-- it is one of the lines whose numbers these are
pub record IsLine (beats : List ℕ) (line : ℕ) : Type 0 where
  pub first : 1 ≤ line
  pub last : line ≤ length beats

abbrev pub beat_ticket : ℕ → ℕ → Ticket
beat_ticket line number = record { line = line; beat = true; number = number }

-- the same, where heartbeats post under these numbers next
abbrev pub with_beats : List ℕ → Sight → Sight
with_beats beats s = record s { nexts = record s.nexts { beats = beats } }

-- What an outbox holds

-- what an errand is posted as; nobody asks for a timestamp
abbrev pub posted_as : ℕ → Errand → List Posting
posted_as line (errands.Send n to r) = Send (beat_ticket line n) to r [] ∷ []
posted_as line (errands.Sleep n ms) = Sleep (beat_ticket line n) ∷ []
posted_as line (errands.Ask n) = []

abbrev pub postings_of : ℕ → List Errand → List Posting
postings_of line [] = []
postings_of line (e ∷ es) = posted_as line e ++ postings_of line es

-- no timestamp is asked for
abbrev pub AreTimeless : List Errand → Type 0
AreTimeless [] = ⊤
AreTimeless (errands.Send n to r ∷ es) = AreTimeless es
AreTimeless (errands.Sleep n ms ∷ es) = AreTimeless es
AreTimeless (errands.Ask n ∷ es) = ⊥

-- What is posted

-- a sleep, or a request that heartbeats send, in the name of no asker
abbrev pub IsOfBeat : Posting → Type 0
IsOfBeat (Send t to r askers) = IsBeat r × (askers ≡ [])
IsOfBeat (Sleep t) = ⊤

-- it is under the next number of the line's heartbeat
pub record IsNextBeat (line : ℕ) (from : List ℕ) (p : Posting) : Type 0 where
  pub own : IsLine from line
  pub ticket : ticket_in p ≡ beat_ticket line (next_at from line)
  pub beats : IsOfBeat p

-- the heartbeat of a line posts these, in this order, each under the next number
abbrev pub AreBeats : ℕ → List ℕ → List Posting → List ℕ → Type 0
AreBeats line from [] to = to ≡ from
AreBeats line from (p ∷ ps) to = IsNextBeat line from p × AreBeats line (with_next from line) ps to

-- it posts some more
pub record PostsBeats (line : ℕ) (from : List ℕ) (old new : List Posting) (to : List ℕ) : Type 0 where
  pub posted : List Posting
  pub pushed : new ≡ old ++ posted
  pub beats : AreBeats line from posted to

-- every ticket of a heartbeat that was used is before the next of its line
abbrev pub AreFresh : List ℕ → List Event → Type 0
AreFresh beats h = (t : Ticket) (r : Request) → Has h (Sent t r) → t.beat ≡ true → t.number < next_at beats t.line
