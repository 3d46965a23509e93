-- What a state may be told of.
use Rattle.std.specs.Prelude.{◌≡◌, ℕ, ⊤, Bool, true, false, is_err, Result, Ok, Err}
use Rattle.txn_kv.specs.Timestamp.{HasVersion}
use Rattle.txn_kv.specs.declared.arrival.Arrival.{Arrival}
use Rattle.txn_kv.specs.declared.arrival.Arrival.TheVariants.{Reply, Lost, Slept, Time}
use Rattle.txn_kv.specs.declared.errors.Error.{Error}
use Rattle.txn_kv.specs.declared.request.Request.{Request}
use Rattle.txn_kv.specs.declared.timestamp.Timestamp.{Timestamp}
use Rattle.txn_history.specs.Faults.{has_error, has_region_error, is_loss}
use Rattle.txn_history.specs.Meaning.{missed, replied, timed, woken, Told}
use Rattle.txn_history.specs.Phase.{Awaited}
use Rattle.txn_history.specs.Phase.Awaited.{ReplyTo, EndOf, TimeOf}
use Rattle.txn_history.specs.Posted.{Posted, ticket_of}
use Rattle.txn_history.specs.Spends.{locked_of, weight_of}
use Rattle.txn_history.specs.Steps.{News}

-- The state is told of it by the line of this outbox. A reply and a loss are those of the request that was sent under the
-- number.
abbrev pub told_by : Arrival → Posted → Request → Told
told_by (Reply n x) o r = replied (ticket_of o n) r x
told_by (Lost n) o r = missed (ticket_of o n) r
told_by (Slept n) o r = woken (ticket_of o n)
told_by (Time n x) o r = timed (ticket_of o n) x

-- what waits for it
abbrev pub awaited_as : Arrival → Awaited
awaited_as (Reply n x) = ReplyTo n
awaited_as (Lost n) = ReplyTo n
awaited_as (Slept n) = EndOf n
awaited_as (Time n x) = TimeOf n

-- the answer to an ask: a timestamp that is in range, or an error that is no loss of a request of the asker's
abbrev pub IsTimeAnswer : Result Timestamp Error → Type 0
IsTimeAnswer (Ok t) = HasVersion t
IsTimeAnswer (Err why) = is_loss why ≡ false

abbrev pub MayArrive : Arrival → Type 0
MayArrive (Reply n x) = ⊤
MayArrive (Lost n) = ⊤
MayArrive (Slept n) = ⊤
MayArrive (Time n x) = IsTimeAnswer x

-- What it tells of that costs more: an error, one that a new run may better, and locks.

abbrev pub tells_error : Arrival → Bool
tells_error (Reply n x) = has_error x
tells_error (Lost n) = true
tells_error (Slept n) = false
tells_error (Time n x) = is_err x

abbrev pub tells_failure : Arrival → Bool
tells_failure (Reply n x) = has_region_error x
tells_failure (Lost n) = true
tells_failure (Slept n) = false
tells_failure (Time n x) = false

abbrev pub weight_told : Arrival → ℕ
weight_told (Reply n x) = weight_of x
weight_told (Lost n) = 0
weight_told (Slept n) = 0
weight_told (Time n x) = 0

abbrev pub locked_told : Arrival → ℕ
locked_told (Reply n x) = locked_of x
locked_told (Lost n) = 0
locked_told (Slept n) = 0
locked_told (Time n x) = 0

-- this came, at the line of this outbox
unfoldable pub arrives : Arrival → Posted → News
arrives a o = record {
  told = λ r. told_by a o r;
  meant = λ phase waits. waits (awaited_as a);
  bad = tells_error a;
  fails = tells_failure a;
  weight = weight_told a;
  locked = locked_told a;
}
