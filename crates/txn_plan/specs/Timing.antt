-- A call for a timestamp.
use Rattle.std.specs.Prelude.{◌≡◌, ◌≢◌, ⊤, ℕ, ◌+◌, ◌++◌, [], ◌∷◌, List, Bool, false, Result, Ok, Err}
use Rattle.txn_kv.specs.Timestamp.{HasVersion}
use Rattle.txn_kv.specs.declared.errors.Error.{Error}
use Rattle.txn_kv.specs.declared.errors.Error.TheVariants.{InternalError}
use Rattle.txn_kv.specs.declared.errors.Internal.TheVariants.{WrongReply}
use Rattle.txn_kv.specs.declared.progress.Progress.{Progress}
use Rattle.txn_kv.specs.declared.progress.Progress.TheVariants.{Waiting, Done}
use Rattle.txn_kv.specs.declared.outbox.Errand.TheVariants.{Ask}
use Rattle.txn_kv.specs.declared.query.PdAnswer.{PdAnswer}
use Rattle.txn_kv.specs.declared.query.PdAnswer.TheVariants as answer
use Rattle.txn_kv.specs.declared.query.PdQuery.TheVariants.{Time}
use Rattle.txn_kv.specs.declared.timestamp.Timestamp.{Timestamp}
use Rattle.txn_history.specs.Around.{around, around-lawful}
use Rattle.txn_history.specs.Event.{Event}
use Rattle.txn_history.specs.Faults.{is_loss}
use Rattle.txn_history.specs.Meaning.{IsLawful, Meaning}
use Rattle.txn_history.specs.Posted.{Posted}
use Rattle.txn_plan.specs.LookUp.{looked_up, looked_up-lawful}
use Rattle.txn_tso.specs.Calling.{IsRefused}
use Rattle.txn_tso.specs.declared.stage.Stage.TheVariants.{Asked, Stopped}
use Rattle.txn_plan.specs.declared.timestamp_call.TimestampCall.{TimestampCall}
use Rattle.txn_kv.specs.declared.arrival.Arrival.{Arrival}
use Rattle.txn_kv.specs.declared.arrival.Arrival.TheVariants as arrivals

-- what the answer to its query is read as
abbrev pub ReadsTime : Result PdAnswer Error → Result Timestamp Error → Type 0
ReadsTime (Ok (answer.Time t)) v = v ≡ Ok t
ReadsTime (Ok _) v = v ≡ Err (InternalError WrongReply)
ReadsTime (Err e) v = v ≡ Err e

-- it queries a timestamp, and has not given up
abbrev pub AsksTime : TimestampCall → Type 0
AsksTime t = (t.call.query ≡ Time) × (t.call.stage ≢ Stopped)

abbrev pub is_lost : Result Timestamp Error → Bool
is_lost (Ok t) = false
is_lost (Err e) = is_loss e

-- It is a look-up, of which each answer is read so.
abbrev pub time_asked : Meaning TimestampCall (Result Timestamp Error)
time_asked = around looked_up (λ t. t.call) (λ t. ReadsTime) AsksTime is_lost

-- it is out with this ask
abbrev pub HasAsked : TimestampCall → ℕ → Type 0
HasAsked t n = t.call.stage ≡ Asked n

-- it has just asked, for the first time
abbrev pub HasBegun : TimestampCall → Posted → Posted → Type 0
HasBegun t from to = (t ≡ record { call = record { query = Time; failed = 0; stage = Asked from.next_ask } }) × (to ≡ record from { next_ask = from.next_ask + 1; sends = from.sends ++ Ask from.next_ask ∷ [] })

-- there is no timestamp, and this is why
abbrev pub WasUntimed : List Event → Error → Type 0
WasUntimed h e = (o : Posted) × IsRefused Time o h e

-- a timestamp is what the ask was answered that is out
abbrev pub IsAnswerOf : TimestampCall → Arrival → Result Timestamp Error → Type 0
IsAnswerOf t a (Ok time) = (n : ℕ) × HasAsked t n × (a ≡ arrivals.Time n (Ok time))
IsAnswerOf t a (Err e) = ⊤

-- and so is that of its query
abbrev pub IsToldTo : TimestampCall → Arrival → Result PdAnswer Error → Type 0
IsToldTo t a (Ok (answer.Time time)) = IsAnswerOf t a (Ok time)
IsToldTo t a (Ok _) = ⊤
IsToldTo t a (Err e) = ⊤

-- a timestamp has a version
abbrev pub HasVersionIfDone : Progress Timestamp → Type 0
HasVersionIfDone Waiting = ⊤
HasVersionIfDone (Done (Ok t)) = HasVersion t
HasVersionIfDone (Done (Err e)) = ⊤

-- lemmas

pub time_asked-lawful : IsLawful time_asked
time_asked-lawful = around-lawful looked_up (λ t. t.call) (λ t. ReadsTime) AsksTime is_lost looked_up-lawful
