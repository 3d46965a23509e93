-- A heartbeat's job: what it sends, and what is known of it.
use Rattle.std.specs.Prelude.{◌≡◌, ◌⊎◌, ◌<◌, ◌≤◌, ◌+◌, ◌-◌, ⊤, ℕ, true, false, List, [], ◌∷◌, ◌++◌, None, Result, Ok, Err}
use Rattle.std.specs.List.{All}
use Rattle.txn_core.specs.Status.{is_end}
use Rattle.txn_core.specs.declared.heartbeat.Heartbeat.{Heartbeat}
use Rattle.txn_core.specs.declared.status.Status.{Status}
use Rattle.txn_history.specs.Event.{Event, Has}
use Rattle.txn_history.specs.Event.Event.{Sent}
use Rattle.txn_history.specs.Meaning.{started, IsUnbegun, Meaning, Tells}
use Rattle.txn_history.specs.Phase.{unheard}
use Rattle.txn_history.specs.Phase.Awaited.{EndOf}
use Rattle.txn_history.specs.Plan.{Key}
use Rattle.txn_history.specs.Posted.{AreNumbered, Errand, Posted}
use Rattle.txn_history.specs.Turn.{Turn}
use Rattle.txn_history.specs.Turn.Turn.{Ends, Stopped, Waits}
use Rattle.txn_kv.specs.Timestamp.{HasVersion, version_of}
use Rattle.txn_kv.specs.declared.errors.Error.{Error}
use Rattle.txn_kv.specs.declared.outbox.Errand.TheVariants as errands
use Rattle.txn_kv.specs.declared.request.Request.{Request}
use Rattle.txn_kv.specs.declared.request.Request.TheVariants.{GetRegion, GetRegionById, GetStore, GetAllStores, Members, TxnHeartBeat}
use Rattle.txn_kv.specs.declared.request.commits.TxnHeartBeatRequest.{TxnHeartBeatRequest}
use Rattle.txn_kv.specs.declared.ticket.Ticket.{Ticket}
use Rattle.txn_history.specs.Arrivals.{awaited_as, told_by}
use Rattle.txn_kv.specs.declared.arrival.Arrival.{Arrival}
use Rattle.txn_heartbeat.specs.declared.heartbeat_job.HeartbeatJob.{HeartbeatJob}
use Rattle.txn_heartbeat.specs.declared.heartbeat_job.Stage.{Stage}
use Rattle.txn_heartbeat.specs.declared.heartbeat_job.Stage.TheVariants as stage

-- a beat for this primary, of the transaction of this start, which asks it to live as long at least as a lock does at most
abbrev pub IsBeatOf : Key → ℕ → Request → Type 0
IsBeatOf primary start (TxnHeartBeat r) = (r.primary_lock ≡ primary) × (r.start_version ≡ start) × (20_000 ≤ r.advise_lock_ttl)
IsBeatOf primary start r = ⊥

-- the request, as it goes to its region
abbrev pub IsSentAs : TxnHeartBeatRequest → Request → Type 0
IsSentAs request (TxnHeartBeat r) = r ≡ record request { context = r.context }
IsSentAs request r = ⊥

-- what the placement driver is asked for: regions, stores and its members
abbrev pub IsLookUp : Request → Type 0
IsLookUp (GetRegion r) = ⊤
IsLookUp (GetRegionById r) = ⊤
IsLookUp (GetStore r) = ⊤
IsLookUp (GetAllStores r) = ⊤
IsLookUp (Members r) = ⊤
IsLookUp r = ⊥

-- a plan of the request that is not begun, and sends nothing but it and look-ups
pub record IsPlanForBeats {S A : Type 0} (m : Meaning S (Result A Error)) (request : TxnHeartBeatRequest) (p : S) : Type 0 where
  pub unbegun : IsUnbegun m p
  pub ready : m.ready p
  pub asks : (h : List Event) (r : Request) → m.asks p h r → IsSentAs request r ⊎ IsLookUp r

-- What a beat's plan is while it is on its way: it can have arisen from a history of its own, in which each ticket names one request, and
-- a number below that of the next.
pub record IsBeating {S A : Type 0} (m : Meaning S (Result A Error)) (primary : Key) (start : ℕ) (p : S) (o : Posted) : Type 0 where
  pub history : List Event
  pub fits : m.fits p o history
  pub alone : (t : Ticket) (r q : Request) → Has history (Sent t r) → Has history (Sent t q) → q ≡ r
  pub below : (t : Ticket) (r : Request) → Has history (Sent t r) → t.line ≡ o.line → t.beat ≡ o.beat → t.number < o.next
  pub asks : (h : List Event) (r : Request) → m.asks p h r → IsBeatOf primary start r ⊎ IsLookUp r
  pub ready : m.ready p

abbrev pub StageLives : {S A : Type 0} → Meaning S (Result A Error) → Key → ℕ → Stage S → Posted → Type 0
StageLives m primary start stage.Fresh o = ⊤
StageLives m primary start (stage.Sleeping n) o = n < o.next
StageLives m primary start (stage.Beating p) o = IsBeating m primary start p o
StageLives m primary start stage.Over o = ⊤
StageLives m primary start stage.Stopped o = ⊤

-- the job may be told of something, where its heartbeat has posted so much
pub record IsAlive {S A : Type 0} (m : Meaning S (Result A Error)) (job : HeartbeatJob S) (o : Posted) : Type 0 where
  pub start : HasVersion job.heartbeat.start
  pub stage : StageLives m job.heartbeat.primary (version_of job.heartbeat.start) job.stage o

-- What it posts

abbrev pub IsErrandOf : Heartbeat → Errand → Type 0
IsErrandOf beat (errands.Send n to r) = IsBeatOf beat.primary (version_of beat.start) r ⊎ IsLookUp r
IsErrandOf beat (errands.Sleep n ms) = ⊤
IsErrandOf beat (errands.Ask n) = ⊤

-- beats, look-ups and sleeps, under numbers that rise by one
pub record Beats (beat : Heartbeat) (from to : Posted) : Type 0 where
  pub sends : List Errand
  pub pushed : to.sends ≡ from.sends ++ sends
  pub line : to.line ≡ from.line
  pub beat_is : to.beat ≡ from.beat
  pub numbered : AreNumbered from.next from.next_ask sends to.next to.next_ask
  pub each : All (IsErrandOf beat) sends

-- it sleeps for its interval, and nothing else
pub record Sleeps {S : Type 0} (old new : HeartbeatJob S) (from to : Posted) (turn : Turn (Result (Unit {0}) Error)) : Type 0 where
  pub waits : turn ≡ Waits
  pub posted : to ≡ record from { next = from.next + 1; sends = from.sends ++ errands.Sleep from.next old.heartbeat.interval ∷ [] }
  pub stage : new.stage ≡ stage.Sleeping from.next

-- nothing changes
pub record StaysAsleep {S : Type 0} (old new : HeartbeatJob S) (from to : Posted) (turn : Turn (Result (Unit {0}) Error)) : Type 0 where
  pub waits : turn ≡ Waits
  pub same : new ≡ old
  pub posted : to ≡ from

-- one that gives up for want of memory does so for good
pub record GivesUp {S : Type 0} (old new : HeartbeatJob S) (from to : Posted) (turn : Turn (Result (Unit {0}) Error)) : Type 0 where
  pub after : old.stage ≡ stage.Stopped → (turn ≡ Stopped) × (new ≡ old) × (to ≡ from)
  pub stops : turn ≡ Stopped → new.stage ≡ stage.Stopped

-- it has ended, and posts nothing
pub record Ended {S : Type 0} (new : HeartbeatJob S) (from to : Posted) (turn : Turn (Result (Unit {0}) Error)) : Type 0 where
  pub ends : turn ≡ Ends (Ok tt)
  pub stage : new.stage ≡ stage.Over
  pub posted : to ≡ from

-- What becomes of a beat

-- what it asks for at this time
abbrev pub beat_at : Heartbeat → ℕ → TxnHeartBeatRequest
beat_at beat now = record { context = None; primary_lock = beat.primary; start_version = version_of beat.start; advise_lock_ttl = 20_000 + (now - beat.began) }

-- A call of its plan ended so: the job waits with it, sleeps once the beat is answered, and is over where it failed.
abbrev pub GoesOn : {S A : Type 0} → Turn (Result A Error) → HeartbeatJob S → HeartbeatJob S → Posted → Posted → Turn (Result (Unit {0}) Error) → Type 0
GoesOn Stopped old new from to turn = ⊥
GoesOn Waits old new from to turn = (turn ≡ Waits) × (new ≡ old) × (to ≡ from)
GoesOn (Ends (Ok v)) old new from to turn = Sleeps old new from to turn
GoesOn (Ends (Err e)) old new from to turn = (turn ≡ Ends (Err e)) × (new.stage ≡ stage.Over) × (to ≡ from)

-- a plan of the beat is started
pub record SendsBeat {S A : Type 0} (m : Meaning S (Result A Error)) (now : ℕ) (old new : HeartbeatJob S) (from to : Posted) (turn : Turn (Result (Unit {0}) Error)) : Type 0 where
  pub fresh : S
  pub is : IsPlanForBeats m (beat_at old.heartbeat now) fresh
  pub plan : S
  pub via : Posted
  pub inner : Turn (Result A Error)
  pub tells : Tells m started fresh plan from via inner
  pub goes : GoesOn inner (record old { stage = stage.Beating plan }) new via to turn

-- the plan of the beat is told of something
pub record TellsBeat {S A : Type 0} (m : Meaning S (Result A Error)) (arrival : Arrival) (p : S) (old new : HeartbeatJob S) (from to : Posted) (turn : Turn (Result (Unit {0}) Error)) : Type 0 where
  pub plan : S
  pub via : Posted
  pub inner : Turn (Result A Error)
  pub tells : (r : Request) → Tells m (told_by arrival from r) p plan from via inner
  pub deaf : (m.waits p (awaited_as arrival) → ⊥) → (inner ≡ unheard (m.phase p)) × (plan ≡ p) × (via ≡ from)
  pub goes : GoesOn inner (record old { stage = stage.Beating plan }) new via to turn

-- What becomes of a job that is told of something, while its transaction has come so far: it sleeps on until the end of its sleep, looks
-- then at its transaction, and ends with it or sends a beat; the plan of a beat that is on its way is told; and one that is over stays so.
pub record HasHeard {S A : Type 0} (m : Meaning S (Result A Error)) (arrival : Arrival) (status : Status) (now : ℕ) (old new : HeartbeatJob S) (from to : Posted) (turn : Turn (Result (Unit {0}) Error)) : Type 0 where
  pub asleep : (n : ℕ) → old.stage ≡ stage.Sleeping n → (awaited_as arrival ≡ EndOf n → ⊥) → StaysAsleep old new from to turn
  pub ends : (n : ℕ) → old.stage ≡ stage.Sleeping n → awaited_as arrival ≡ EndOf n → is_end status ≡ true → Ended new from to turn
  pub wakes : (n : ℕ) → old.stage ≡ stage.Sleeping n → awaited_as arrival ≡ EndOf n → is_end status ≡ false → SendsBeat m now old new from to turn
  pub tells : (p : S) → old.stage ≡ stage.Beating p → TellsBeat m arrival p old new from to turn
  pub over : old.stage ≡ stage.Over → StaysAsleep old new from to turn
