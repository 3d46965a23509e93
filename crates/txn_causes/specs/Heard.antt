-- What an error of a call may rest on.
use Rattle.std.specs.Prelude.{List}
use Rattle.txn_history.specs.Event.{Event, Has}
use Rattle.txn_history.specs.Event.Event.{Took, Lost}
use Rattle.txn_history.specs.Posted.{Within}
use Rattle.txn_kv.specs.declared.reply.Reply.{Reply}
use Rattle.txn_kv.specs.declared.request.Request.{Request}
use Rattle.txn_kv.specs.declared.ticket.Ticket.{Ticket}

pub data Heard : Type 0 where
  -- the reply to this request was taken
  TookReply : (ticket : Ticket) (request : Request) (reply : Reply) → Heard
  -- no reply to it will come
  WasLost : (ticket : Ticket) (request : Request) → Heard

-- so much in a history
abbrev pub heard_in : List Event → Heard → Type 0
heard_in h (TookReply t r o) = Has h (Took t r o)
heard_in h (WasLost t r) = Has h (Lost t r)

-- lemmas

pub heard_longer : (h longer : List Event) → Within h longer → (x : Heard) → heard_in h x → heard_in longer x
heard_longer h longer w (TookReply t r o) k = w _ k
heard_longer h longer w (WasLost t r) k = w _ k
