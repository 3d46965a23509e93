-- The events of a run, the newest first.
use Rattle.std.specs.Prelude.{◌≡◌, ◌⊎◌, ℕ, Bool, true, false, not, ◌&&◌, ◌||◌, if◌then◌else◌, List, [], ◌∷◌, Option, Some, None, Result, nat_eq, is_some}
use Rattle.txn_kv.specs.declared.errors.Error.{Error}
use Rattle.txn_kv.specs.declared.ticket.Ticket.{Ticket}
use Rattle.txn_kv.specs.declared.timestamp.Timestamp.{Timestamp}
use Rattle.txn_kv.specs.declared.request.Request.{Request}
use Rattle.txn_kv.specs.declared.reply.Reply.{Reply}

-- What may happen. What never comes is no event: a request that is not served, a reply that is not taken.
pub data Event : Type 0 where
  -- a client sent this request
  Sent : (ticket : Ticket) (request : Request) → Event
  -- the store handled it, and this is its reply
  Served : (ticket : Ticket) (request : Request) (reply : Reply) → Event
  -- the client took the reply
  Took : (ticket : Ticket) (request : Request) (reply : Reply) → Event
  -- the store was too busy to look at the request, and this is its reply
  Refused : (ticket : Ticket) (request : Request) (reply : Reply) → Event
  -- the client was told that no reply will come, whether the store handles the request or not
  Lost : (ticket : Ticket) (request : Request) → Event
  -- a sleep was begun, and ended; it has a ticket as a request has
  Began : (ticket : Ticket) (ms : ℕ) → Event
  Slept : (ticket : Ticket) → Event
  -- a line asked its client's oracle for a timestamp, and was answered with it, or why none will come; the asks of a line
  -- are numbered by themselves
  Asked : (ask : Ticket) → Event
  Answered : (ask : Ticket) (answer : Result Timestamp Error) → Event
  -- a client is gone, with all its calls
  Crashed : (client : ℕ) → Event
  -- a region was split at the key, or is led by this store; the oracle's clock was set
  Split : (key : List ℕ) → Event
  Led : (region store : ℕ) → Event
  Clocked : (ms : ℕ) → Event

-- an event is among these
abbrev pub Has : List Event → Event → Type 0
Has [] e = ⊥
Has (x ∷ es) e = (x ≡ e) ⊎ Has es e

abbrev pub bool_eq : Bool → Bool → Bool
bool_eq true b = b
bool_eq false b = not b

abbrev pub same_ticket : Ticket → Ticket → Bool
same_ticket a b = nat_eq a.line b.line && bool_eq a.beat b.beat && nat_eq a.number b.number

-- the request that was sent with this ticket
abbrev pub sent_request : List Event → Ticket → Option Request
sent_request [] t = None
sent_request (Sent u r ∷ es) t = if same_ticket u t then Some r else sent_request es t
sent_request (_ ∷ es) t = sent_request es t

-- the reply that the store gave to it
abbrev pub kept_reply : List Event → Ticket → Option Reply
kept_reply [] t = None
kept_reply (Served u r o ∷ es) t = if same_ticket u t then Some o else kept_reply es t
kept_reply (_ ∷ es) t = kept_reply es t

-- the reply that the client took
abbrev pub taken_reply : List Event → Ticket → Option Reply
taken_reply [] t = None
taken_reply (Took u r o ∷ es) t = if same_ticket u t then Some o else taken_reply es t
taken_reply (_ ∷ es) t = taken_reply es t

-- it was sent, and no reply of it was taken
abbrev pub is_out : List Event → Ticket → Bool
is_out es t = is_some (sent_request es t) && not (is_some (taken_reply es t))

-- the store has handled it
abbrev pub is_served : List Event → Ticket → Bool
is_served es t = is_some (kept_reply es t)

-- the store was too busy to look at it
abbrev pub is_refused : List Event → Ticket → Bool
is_refused [] t = false
is_refused (Refused u r o ∷ es) t = same_ticket u t || is_refused es t
is_refused (_ ∷ es) t = is_refused es t

-- the client was told that no reply will come
abbrev pub is_lost : List Event → Ticket → Bool
is_lost [] t = false
is_lost (Lost u r ∷ es) t = same_ticket u t || is_lost es t
is_lost (_ ∷ es) t = is_lost es t

-- the client still waits for its reply
abbrev pub is_awaited : List Event → Ticket → Bool
is_awaited es t = is_out es t && not (is_lost es t)
