-- Which line draws which timestamp.
use Rattle.std.specs.Prelude.{◌≡◌, ℕ, List, ◌∷◌, ◌++◌, length, Ok}
use Rattle.txn_kv.specs.Timestamp.{version_of}
use Rattle.txn_kv.specs.declared.request.Request.TheVariants.{Tso}
use Rattle.txn_kv.specs.declared.request.cluster.TsoRequest.{TsoRequest}
use Rattle.txn_kv.specs.declared.reply.Reply.TheVariants as reply
use Rattle.txn_kv.specs.declared.reply.cluster.TsoResponse.{TsoResponse}
use Rattle.txn_kv.specs.declared.ticket.Ticket.{Ticket}
use Rattle.txn_kv.specs.declared.timestamp.Timestamp.{Timestamp}
use Rattle.txn_history.specs.Event.{Event, Has}
use Rattle.txn_history.specs.Event.Event.{Took}
use Rattle.txn_tso.specs.Oracle.{answer}

-- A line draws a timestamp: a request for timestamps carried an ask of it, among those of the lines that are noted for the
-- request in their order; the reply was taken; and this is what it answers an ask with so many behind it.
pub record IsDrawn (askers : Ticket → List ℕ) (h : List Event) (line c : ℕ) : Type 0 where
  pub ticket : Ticket
  pub request : TsoRequest
  pub response : TsoResponse
  pub taken : Has h (Took ticket (Tso request) (reply.Tso response))
  pub ahead : List ℕ
  pub behind : List ℕ
  pub lines : askers ticket ≡ ahead ++ line ∷ behind
  pub time : Timestamp
  pub granted : answer response (length (askers ticket)) (length behind) ≡ Ok time
  pub version : version_of time ≡ c
