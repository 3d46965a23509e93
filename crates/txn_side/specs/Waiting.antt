-- What the calls of clients wait for, and that something is out for each.
use Rattle.std.specs.Prelude.{◌≡◌, ◌⊎◌, ℕ, false, true, List, [], Option, Some, None, slice_index_or}
use Rattle.std.specs.List.{Any}
use Rattle.txn_kv.specs.declared.ticket.Ticket.{Ticket}
use Rattle.txn_side.specs.Sight.{Group, IsAsk, IsOut, Sight, Stand, client_at, lives, stand_at, ticket_in}
use Rattle.txn_side.specs.Sight.Stand.{Asking, Calling, HasBegun, Idle, IsClient, Past, Working}
use Rattle.txn_side.specs.declared.turn.Posting.{Posting}
use Rattle.txn_side.specs.declared.turn.Posting.TheVariants.{Send, Sleep}
use Rattle.txn_side.specs.declared.turn.Turn.{Turn}

-- What a line may wait for: the reply to a number of its own, or the end of its sleep.
pub data Awaited : Type 0 where
  ReplyTo : (number : ℕ) → Awaited
  EndOf : (number : ℕ) → Awaited

-- what a posting is waited for as
abbrev pub awaited_as : Posting → Awaited
awaited_as (Send t to r askers) = ReplyTo t.number
awaited_as (Sleep t) = EndOf t.number

-- one of these is waited for so, by the call of this line: it is none of a heartbeat
abbrev pub IsPosted : List Posting → ℕ → Awaited → Type 0
IsPosted posted line a = Any (λ p. ((ticket_in p).line ≡ line) × ((ticket_in p).beat ≡ false) × (awaited_as p ≡ a)) posted

abbrev pub posted_in : Option Turn → List Posting
posted_in None = []
posted_in (Some turn) = turn.posted.items

-- What is heard of: nothing, what comes of the request of a ticket, or that a sleep has ended.

abbrev pub NoneHeard : ℕ → Awaited → Type 0
NoneHeard line a = ⊥

abbrev pub HearsReply : Ticket → ℕ → Awaited → Type 0
HearsReply t line a = (t.beat ≡ false) × (line ≡ t.line) × (a ≡ ReplyTo t.number)

abbrev pub HearsEnd : Ticket → ℕ → Awaited → Type 0
HearsEnd t line a = (t.beat ≡ false) × (line ≡ t.line) × (a ≡ EndOf t.number)

-- What one step makes of what is waited for.
pub record WaitsOn (Hears : ℕ → Awaited → Type 0) (posted : List Posting) (was is : ℕ → Awaited → Type 0) (old new : Sight) : Type 0 where
  -- a line waits for what it waited for and has not heard of, and for what is posted
  pub lines : (line : ℕ) (a : Awaited) → is line a → (was line a × (Hears line a → ⊥)) ⊎ IsPosted posted line a
  -- a request for timestamps that is out was out before and is not heard of, or is posted
  pub groups : (g : Group) → IsOut new g → (IsOut old g × (Hears g.ticket.line (ReplyTo g.ticket.number) → ⊥)) ⊎ Any (IsAsk g) posted

-- no line waits for anything
abbrev pub NoneWaits : (ℕ → Awaited → Type 0) → Type 0
NoneWaits waits = (line : ℕ) (a : Awaited) → waits line a → ⊥

-- the client whose call waits there
abbrev pub waiting_at : Stand → Option ℕ
waiting_at Idle = None
waiting_at (IsClient c) = None
waiting_at (Asking c b) = Some c
waiting_at (HasBegun c m) = None
waiting_at (Calling c x b) = Some c
waiting_at (Past c) = None
waiting_at (Working c) = None

-- the client's request for timestamps is out, in the name of a line of its own
pub record HasGroup (s : Sight) (c : ℕ) : Type 0 where
  pub group : Group
  pub out : slice_index_or s.groups c None ≡ Some group
  pub own : client_at (stand_at s.stands group.ticket.line) ≡ Some c

-- A call that waits, of a client that has not crashed, waits for something that its own line posted, or its client's request for
-- timestamps is out.
abbrev pub IsDue : (ℕ → Awaited → Type 0) → Sight → Type 0
IsDue waits s = (n c : ℕ) → waiting_at (stand_at s.stands n) ≡ Some c → lives s.crashed (Some c) ≡ true → ((a : Awaited) × waits n a) ⊎ HasGroup s c
