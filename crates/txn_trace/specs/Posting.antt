-- What lines post, and which numbers they have left.
use Rattle.std.specs.Prelude.{◌≡◌, ◌<◌, ℕ, Bool, List}
use Rattle.txn_kv.specs.declared.request.Request.{Request}
use Rattle.txn_kv.specs.declared.ticket.Ticket.{Ticket}
use Rattle.txn_history.specs.Event.{Event, Has}
use Rattle.txn_history.specs.Event.Event.{Sent, Began, Asked}

-- it is no request that is sent
abbrev pub SendsNothing : Event → Type 0
SendsNothing (Sent t r) = ⊥
SendsNothing _ = Unit {0}

-- nor a sleep that begins, nor an ask for a timestamp
abbrev pub PostsNothing : Event → Type 0
PostsNothing (Sent t r) = ⊥
PostsNothing (Began t ms) = ⊥
PostsNothing (Asked a) = ⊥
PostsNothing _ = Unit {0}

-- the ticket is one of this line, or of its heartbeat
abbrev pub IsOf : ℕ → Bool → Ticket → Type 0
IsOf line beat t = (t.line ≡ line) × (t.beat ≡ beat)

-- The line is free to use these numbers and all above: it has used lower ones alone, for requests and sleeps together, and for
-- asks.
pub record IsFreshFor (line : ℕ) (beat : Bool) (next next_ask : ℕ) (h : List Event) : Type 0 where
  pub sent : (t : Ticket) (r : Request) → Has h (Sent t r) → IsOf line beat t → t.number < next
  pub began : (t : Ticket) (ms : ℕ) → Has h (Began t ms) → IsOf line beat t → t.number < next
  pub asked : (a : Ticket) → Has h (Asked a) → IsOf line beat a → a.number < next_ask
