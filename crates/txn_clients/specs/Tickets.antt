-- What comes for a ticket: whom it is told, and what the clients then show of themselves.
use Rattle.std.specs.Prelude.{◌≡◌, ◌<◌, ⊤, ℕ, true, false, length, Some}
use Rattle.txn_kv.specs.declared.arrival.Arrival.{Arrival}
use Rattle.txn_kv.specs.declared.arrival.Arrival.TheVariants as arrivals
use Rattle.txn_kv.specs.declared.ticket.Ticket.{Ticket}
use Rattle.txn_commit.specs.Ways.{Ways}
use Rattle.txn_side.specs.Sight.{client_at, is_live, stand_at}
use Rattle.txn_side.specs.Steps.{StepsTold}
use Rattle.txn_side.specs.declared.coming.Coming.{Coming}
use Rattle.txn_side.specs.declared.coming.Coming.TheVariants as coming
use Rattle.txn_side.specs.declared.turn.Turn.{Turn}
use Rattle.txn_clients.specs.Accounts.{account_at}
use Rattle.txn_clients.specs.Arising.{ArisenFrom, HoldsAt}
use Rattle.txn_clients.specs.Clients.{HasOut, crashed_of, rows_of, sight_of}
use Rattle.txn_clients.specs.Failing.{FailsFor}
use Rattle.txn_clients.specs.Resting.{RestsIn}
use Rattle.txn_clients.specs.Waiting.{IsReady, book_at, waits_of}
use Rattle.txn_clients.specs.declared.clients.Clients.{Clients}

-- what came, for the number of its ticket
abbrev pub arrival_as : ℕ → Coming → Arrival
arrival_as n (coming.Reply o) = arrivals.Reply n o
arrival_as n coming.Lost = arrivals.Lost n
arrival_as n coming.Slept = arrivals.Slept n

-- The ticket is one of a call, of a line of this client, which has not crashed.
pub record IsOfLine {P : Type 0} (client : ℕ) (u : Ticket) (s : Clients P) : Type 0 where
  pub call : u.beat ≡ false
  pub live : is_live (sight_of s) u.line ≡ true
  pub own : client_at (stand_at (sight_of s).stands u.line) ≡ Some client
  pub there : client < length (crashed_of s)

-- It is told to the call of the line: a sleep has ended, or the ticket is not that of the client's request for timestamps.
abbrev pub IsForLine : {P : Type 0} → ℕ → Ticket → Coming → Clients P → Type 0
IsForLine client u coming.Slept s = ⊤
IsForLine client u what s = (book_at s client).ticket ≡ Some u → ⊥

-- this was told that came for the ticket
abbrev pub HasTold : {P : Type 0} → Ways P → Ticket → Coming → Clients P → Clients P → Turn → Type 0
HasTold w u what s t =
    StepsTold sight_of (IsReady w) (waits_of w) (λ x. account_at (rows_of x)) (FailsFor w) (RestsIn w) (ArisenFrom w) (λ x h n o. HoldsAt (rows_of x) h n o) u what s t

-- so was what came for the client's request for timestamps
abbrev pub HasToldGroup : {P : Type 0} → Ways P → ℕ → Coming → Clients P → Clients P → Turn → Type 0
HasToldGroup w client what s t turn = (u : Ticket) → IsOfLine client u s → HasOut (sight_of s) client u → HasTold w u what s t turn
