-- What a client's oracle holds in a history, and what it answers.
use Rattle.std.specs.Prelude.{List, [], ◌∷◌, length, Option, Some, None}
use Rattle.txn_kv.specs.declared.request.Request.TheVariants.{Tso}
use Rattle.txn_kv.specs.declared.ticket.Ticket.{Ticket}
use Rattle.txn_history.specs.Among.{IsAmong}
use Rattle.txn_history.specs.Event.{Event, Has}
use Rattle.txn_history.specs.Event.Event.{Sent, Asked, Answered}
use Rattle.txn_history.specs.Licence.{SentAfterAsk}
use Rattle.txn_law.specs.Run.{IsPossible}
use Rattle.txn_tso.specs.Oracle.{Answer, Oracle}
use Rattle.txn_tso.specs.declared.asker.Asker.{Asker}

-- the ask of an asker
abbrev pub ask_of : Asker → Ticket
ask_of a = record { line = a.line; beat = a.beat; number = a.ask }

-- a request for one timestamp for each of the group was sent with this ticket, after each asked
abbrev pub GroupFits : Option (List Asker) → Ticket → List Event → Type 0
GroupFits None t h = Unit {0}
GroupFits (Some group) t h = Has h (Sent t (Tso (record { count = length group }))) × ((a : Asker) → IsAmong group a → SentAfterAsk h (ask_of a) t)

-- The oracle can have arisen from this history: each that waits asked, and the group that is out, if one is, went out with this
-- ticket.
pub record OracleFits (o : Oracle) (t : Ticket) (h : List Event) : Type 0 where
  pub queue : (a : Asker) → IsAmong o.queue a → Has h (Asked (ask_of a))
  pub out : GroupFits o.out t h

-- an ask is told the timestamp, or why none will come
abbrev pub answering : Answer → Event
answering a = Answered (ask_of a.0) a.1

-- each of these may be told now
abbrev pub AreAnswerable : List Answer → List Event → Type 0
AreAnswerable [] h = Unit {0}
AreAnswerable (a ∷ rest) h = IsPossible h (answering a) × AreAnswerable rest h
