-- What a call of a client answers is what it was wanted for.
use Rattle.std.proofs.Common.{ℕ, false, List, [], ◌∷◌, refl, sym, subst, inl}
use Rattle.std.specs.Prelude.{IfOk, Result, Ok, Err}
use Rattle.txn_blocking.specs.Blocking.{HasGiven, StillGives}
use Rattle.txn_client.specs.Calls.{IsMadeOf, IsWanted, made}
use Rattle.txn_client.specs.declared.client_answer.ClientAnswer.{ClientAnswer}
use Rattle.txn_client.specs.declared.client_call.ClientCall.{ClientCall}
use Rattle.txn_client.specs.declared.client_call.Wanted.{Wanted}
use Rattle.txn_client.specs.declared.client_call.Wanted.TheVariants as wants
use Rattle.txn_history.specs.Event.{Event}
use Rattle.txn_history.specs.Event.Event.{Answered}
use Rattle.txn_kv.specs.declared.arrival.Arrival.{Arrival}
use Rattle.txn_kv.specs.declared.errors.Error.{Error}
use Rattle.txn_kv.specs.declared.ticket.Ticket.{Ticket}
use Rattle.txn_kv.specs.declared.timestamp.Timestamp.{Timestamp}

some_ask : Ticket
some_ask = record { line = 0; beat = false; number = 0 }

-- a history in which an ask is answered with this timestamp
abbrev told : Timestamp → List Event
told t = Answered some_ask (Ok t) ∷ []

made_wanted : (C P : Type 0) (w : Wanted) (now : ℕ) (t : Timestamp) → IsWanted {C = C} {P = P} w (told t) (made w now t)
made_wanted C P wants.Timestamp now t = (some_ask, inl refl)
made_wanted C P (wants.Transaction options) now t = (refl, (some_ask, inl refl))

pub has_given : {C P : Type 0} (first call : ClientCall C P) (now : ℕ) (a : Arrival) (v : Result (ClientAnswer C P) Error) → StillGives first call → IsMadeOf call.wanted now a v → IfOk v (HasGiven first)
has_given first call now a (Err e) s m = tt
has_given first call now a (Ok x) s m =
    let t = m.1 in
    (told t, s (told t) x (subst (IsWanted call.wanted (told t)) (sym m.3) (made_wanted _ _ call.wanted now t)))
