-- The asks for timestamps that a client has sent, what comes for them, and what those are told who asked.
use Rattle.std.specs.Prelude.{◌≡◌, ◌⊎◌, ⊤, ℕ, Bool, true, false, List, map, Option, Some, None, Result, Ok, Err}
use Rattle.txn_history.specs.Among.{IsAmong}
use Rattle.txn_kv.specs.Timestamp.{version_of}
use Rattle.txn_kv.specs.declared.errors.Error.{Error}
use Rattle.txn_kv.specs.declared.errors.Error.TheVariants.{InternalError}
use Rattle.txn_kv.specs.declared.errors.Internal.{Internal}
use Rattle.txn_kv.specs.declared.errors.Internal.TheVariants.{OracleLost, WrongReply}
use Rattle.txn_kv.specs.declared.reply.Reply.{Reply}
use Rattle.txn_kv.specs.declared.request.Request.{Request}
use Rattle.txn_kv.specs.declared.ticket.Ticket.{Ticket}
use Rattle.txn_kv.specs.declared.timestamp.Timestamp.{Timestamp}
use Rattle.txn_history.specs.Arrivals.{IsTimeAnswer}
use Rattle.txn_history.specs.Event.{Event}
use Rattle.txn_side.specs.Sight.{Group}
use Rattle.txn_side.specs.Steps.{event_of}
use Rattle.txn_side.specs.Trace.{Refuses}
use Rattle.txn_side.specs.declared.coming.Coming.{Coming}
use Rattle.txn_side.specs.declared.coming.Coming.TheVariants as coming
use Rattle.txn_tso.specs.Oracle.{Answer, askers_out}
use Rattle.txn_tso.specs.declared.asker.Asker.{Asker}
use Rattle.txn_clients.specs.declared.client_state.ClientState.{ClientState}

-- What is out

abbrev pub lines_in : List Asker → List ℕ
lines_in askers = map (λ (a : Asker). a.line) askers

-- the lines whose asks the oracle has sent
abbrev pub lines_out : ClientState → List ℕ
lines_out c = lines_in (askers_out c.oracle)

-- the request of this ticket is out, for these lines
abbrev pub group_by : Option Ticket → List ℕ → Option Group
group_by None lines = None
group_by (Some t) lines = Some (record { ticket = t; askers = lines })

abbrev pub group_of : ClientState → Option Group
group_of c = group_by c.group (lines_out c)

-- what is out was so before
abbrev pub IsLeft : Option Group → Option Group → Type 0
IsLeft old new = (new ≡ None) ⊎ (new ≡ old)

-- What comes for the request

-- its reply, or that it was lost
abbrev pub coming_as : Option Reply → Coming
coming_as (Some o) = coming.Reply o
coming_as None = coming.Lost

abbrev pub over_by : Option Reply → Ticket → Request → Event
over_by o u r = event_of u (coming_as o) r

-- with what it refuses one of so many whose asks the request carries
abbrev pub RefusesBy : ℕ → Option Reply → Error → Type 0
RefusesBy asked (Some o) e = Refuses asked o e
RefusesBy asked None e = e ≡ InternalError OracleLost

-- What is told

-- an answer that a call may be told
abbrev pub IsTimeFor : Asker × Result Timestamp Error → Type 0
IsTimeFor a = IsTimeAnswer a.1

abbrev pub IsError : Result Timestamp Error → Type 0
IsError (Ok t) = ⊥
IsError (Err e) = ⊤

-- there is no timestamp for an asker
abbrev pub IsRefused : Answer → Type 0
IsRefused a = IsError a.1

-- why there is none for any: the group was lost, or its reply is of another kind
abbrev pub why_none : Bool → Internal
why_none true = OracleLost
why_none false = WrongReply

-- an asker at this line is given this timestamp
pub record IsTimed (given : List Answer) (line version : ℕ) : Type 0 where
  pub asker : Asker
  pub time : Timestamp
  pub among : IsAmong given (asker, Ok time)
  pub line_is : asker.line ≡ line
  pub version_is : version_of time ≡ version
