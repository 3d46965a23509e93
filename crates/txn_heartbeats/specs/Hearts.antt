-- What stands at the lines: their heartbeats, and the clients around which they are.
use Rattle.std.specs.Prelude.{◌≡◌, ℕ, true, List, [], map, length, Option, Some, None, Result, slice_index_or}
use Rattle.std.proofs.Common.{zero, suc}
use Rattle.txn_heartbeat.specs.Beats.{IsAlive}
use Rattle.txn_heartbeat.specs.declared.heartbeat_job.HeartbeatJob.{HeartbeatJob}
use Rattle.txn_history.specs.Event.{Event}
use Rattle.txn_history.specs.Meaning.{Meaning}
use Rattle.txn_history.specs.Posted.{Posted}
use Rattle.txn_kv.specs.declared.errors.Error.{Error}
use Rattle.txn_side.specs.Sight.{Sight, line_count, next_at}
use Rattle.txn_side.specs.Trace.{Trace}
use Rattle.txn_side.specs.Waiting.{Awaited}
use Rattle.txn_heartbeats.specs.Beating.{AreFresh, with_beats}
use Rattle.txn_heartbeats.specs.declared.heartbeats.Heartbeats.{Heartbeats}

-- the number of the next request or sleep of each line's heartbeat
abbrev pub beats_of : {S H : Type 0} → Heartbeats S H → List ℕ
beats_of b = map (λ p. p.next) b.pulses.items

-- the job of each line's heartbeat, where it has one
abbrev pub jobs_of : {S H : Type 0} → Heartbeats S H → List (Option (HeartbeatJob H))
jobs_of b = map (λ p. p.job) b.pulses.items

abbrev pub job_at : {H : Type 0} → List (Option (HeartbeatJob H)) → ℕ → Option (HeartbeatJob H)
job_at jobs zero = None
job_at jobs (suc i) = slice_index_or jobs i None

-- what a machine sees of them is what it sees of the clients, and the numbers of the heartbeats
abbrev pub sight_of : {S H : Type 0} → (S → Sight) → Heartbeats S H → Sight
sight_of sight b = with_beats (beats_of b) (sight b.side)

-- The clients have used no number of a heartbeat. It is a law of theirs, but what they say of clients of no line they say of a sight that
-- has no such number either, which is not seen from outside.
abbrev pub IsUnbeaten : Sight → Type 0
IsUnbeaten s = s.nexts.beats ≡ map (λ (n : ℕ). 1) s.nexts.calls

-- what a call waits for
abbrev pub waits_of : {S H : Type 0} → (S → Sight) → (S → ℕ → Awaited → Type 0) → Heartbeats S H → ℕ → Awaited → Type 0
waits_of sight waits b n a = IsUnbeaten (sight b.side) × waits b.side n a

-- what the calls have heard has happened
abbrev pub RestsIn : {S H : Type 0} → (S → Sight) → (S → Trace → Type 0) → Heartbeats S H → Trace → Type 0
RestsIn sight rests b t = IsUnbeaten (sight b.side) → rests b.side t

-- an outbox of a line's heartbeat, in which nothing is posted yet
abbrev pub outbox_at : ℕ → ℕ → Posted
outbox_at line next = record { line = line; beat = true; next = next; next_ask = 1; sends = [] }

-- each job may be told of something
abbrev pub AreAlive : {H A : Type 0} → Meaning H (Result A Error) → List ℕ → List (Option (HeartbeatJob H)) → Type 0
AreAlive {H} m beats jobs = (line : ℕ) (job : HeartbeatJob H) → job_at jobs line ≡ Some job → IsAlive m job (outbox_at line (next_at beats line))

-- they may be called: the clients may, and each line has the numbers of a heartbeat, whose job may be told of something
pub record IsReady {S H A : Type 0} (ready : S → Type 0) (sight : S → Sight) (m : Meaning H (Result A Error)) (b : Heartbeats S H) : Type 0 where
  pub side : ready b.side
  pub unbeaten : IsUnbeaten (sight b.side)
  pub even : length (beats_of b) ≡ line_count (sight b.side)
  pub alive : AreAlive m (beats_of b) (jobs_of b)

-- they can have arisen from this: the clients can, and no ticket that a heartbeat uses next was used
pub record ArisesIn {S H : Type 0} (arises : S → List Event → Type 0) (b : Heartbeats S H) (h : List Event) : Type 0 where
  pub side : arises b.side h
  pub fresh : AreFresh (beats_of b) h
